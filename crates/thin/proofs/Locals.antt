-- All locals of a function as one entry of a walk's context. A walk then names a local by its number in MIR, as the code does, and not by its place among the entries. Nothing here speaks of sessions.
--     E        the locals' types and blocks: an environment of the program logic
--     os       what they hold: a value, or nothing yet. A local past the list's end holds nothing
use mathlib.Core.Path.{◌≡◌, refl, sym, ap, subst}
use mathlib.Core.Option.{Option, none, some}
use mathlib.Core.Bool.{Bool, true, false}
use Prim.Native.Nat.{ℕ, zero, suc}
use mathlib.Core.List.{[], ◌∷◌, List}
use seplogic.Ra.Ura.{Ura}
use base.Fraction.{full_share}
use lib.Dec.{T}
use mir.Syntax.{Ty, Step as PStep, Local, local, place, copy, return}
use mir.Val.{Val, WT, has_ty}
use base.Logic.{SProp, ent, sep, wand, all, via, id⊢, assoc∗, mono_l, mono_r, wand_i, apply∗, all_e, guard_i, emp}
use base.Fml.{Fml, ftrue, fsep, fat, froom, fdies}
use prog.Wp.{Heap, Env, Spot, spot_of, Calls, Loops}
use types.Logic.{Logic, sem}
use types.Kit.{◌⊛◌, split, Item, Goal, Seq, Step, step, push, pop, ⋆, runs, frees, allocs, params', passes, prop, at_ret, ‵, raw, ◌$◌, ◌∵◌, !, qed, move, drop, use0, use1, use2, fsplit, fjoin, frame, assume, each, done, nth}
use types.Run.{init, Writes, Opd, Walks, Finds, from, stop, load, returns, alloc1, alloc0, params1, pass1, pass0, free1, free0}
use types.Part.{Part, Rest, given_back, look_in}

-- ---- what the locals hold
-- the first local's, and the others': both are total, so that the list may be shorter than E
abbrev first : List (Option Val) → Option Val
first [] = none
first (o ∷ os) = o

abbrev rest : List (Option Val) → List (Option Val)
rest [] = []
rest (o ∷ os) = os

-- what local i holds
abbrev pub at : List (Option Val) → ℕ → Option Val
at os zero = first os
at os (suc i) = at (rest os) i

-- the same, but that local i holds o
abbrev pub set : List (Option Val) → ℕ → Option Val → List (Option Val)
set os zero o = o ∷ rest os
set os (suc i) o = first os ∷ set (rest os) i o

pub at_set : (os : List (Option Val)) (i : ℕ) (o : Option Val) → at (set os i o) i ≡ o
at_set os zero o = refl
at_set os (suc i) o = at_set (rest os) i o

-- to store what a local holds already changes nothing: a local that is read stays as it was
abbrev Full : Option Val → Type 0
Full none = ⊥
Full (some v) = Unit {0}

-- a local past the end is not full
past : (i : ℕ) → Full (at [] i) → ⊥
past zero h = h
past (suc i) h = past i h

set_full : (os : List (Option Val)) (i : ℕ) → Full (at os i) → set os i (at os i) ≡ os
set_full [] i h = absurd (past i h)
set_full (o ∷ os) zero h = refl
set_full (o ∷ os) (suc i) h = ap (λ (ps : List (Option Val)). o ∷ ps) (set_full os i h)

set_same : (os : List (Option Val)) (i : ℕ) (v : Val) → at os i ≡ some v → set os i (some v) ≡ os
set_same os i v e = subst (λ (o : Option Val). set os i o ≡ os) e (set_full os i (subst Full (sym e) tt))

-- ---- what a local is
-- it is one of the function's
abbrev within : List (Ty × ℕ) → ℕ → Bool
within [] i = false
within (e ∷ E) zero = true
within (e ∷ E) (suc i) = within E i

-- whether it is one of the function's, its type, and what it holds: plain data, so that what a walk asks of many locals is one equation of lists, which `refl` shows for a function's own locals
abbrev pub Seen : Type 0
Seen = Bool × (Ty × Option Val)

-- one of the function's, of the type τ, that holds o
abbrev pub is : Ty → Option Val → Seen
is τ o = (true, (τ, o))

module _ {M : Type 1} (𝓤 : Ura M) (H : Heap 𝓤) where
  -- what local i is
  abbrev pub see : List (Ty × ℕ) → List (Option Val) → ℕ → Seen
  see E os i = (within E i, ((spot_of 𝓤 H E i).0, at os i))

  -- local i is of the type τ and holds o. It is a record, so that antt reads these off it
  pub record Here (E : List (Ty × ℕ)) (os : List (Option Val)) (i : ℕ) (τ : Ty) (o : Option Val) : Type 0 where
    pub seen : see E os i ≡ is τ o

module _ {M : Type 1} {𝓤 : Ura M} {H : Heap 𝓤} {E : List (Ty × ℕ)} {os : List (Option Val)} {i : ℕ} {τ : Ty} {o : Option Val} (h : Here 𝓤 H E os i τ o) where
  -- its three parts
  abbrev inside : T (within E i)
  inside = subst T (sym (ap (λ (z : Seen). z.0) h.seen)) tt

  abbrev typed : (spot_of 𝓤 H E i).0 ≡ τ
  typed = ap (λ (z : Seen). z.1.0) h.seen

  abbrev holds : at os i ≡ o
  holds = ap (λ (z : Seen). z.1.1) h.seen

  -- once it is set, it holds that
  pub here_set : (o' : Option Val) → Here 𝓤 H E (set os i o') i τ o'
  here_set o' = record { seen = λ k. ((h.seen k).0, ((h.seen k).1.0, at_set os i o' k)) }

-- ---- the entry
-- a local's memory: room, or a cell with its value
abbrev cell : Ty → ℕ → Option Val → Fml
cell τ b none = froom τ b zero
cell τ b (some v) = fat full_share τ b zero v

-- each local's memory, and what frees it. It is shut: a walk reads and writes locals by the steps below alone
unfoldable pub Locals : List (Ty × ℕ) → List (Option Val) → Fml
Locals [] os = ftrue
Locals (e ∷ E) os = fsep (fsep (cell e.0 e.1 (first os)) (fdies e.0 e.1)) (Locals E (rest os))

-- ---- one local out of all, and back with whatever value it holds then
module _ {M : Type 1} {𝓤 : Ura M} (𝓛 : Logic 𝓤) where
  -- the memory of local i, where it holds o
  open 𝓛 use {H}

  abbrev Cell : List (Ty × ℕ) → ℕ → Option Val → SProp 𝓤
  Cell E i o = sem 𝓛 (cell (spot_of 𝓤 H E i).0 (spot_of 𝓤 H E i).1 o)

  -- that memory with the value u gives back all locals
  abbrev Back : List (Ty × ℕ) → List (Option Val) → ℕ → Val → SProp 𝓤
  Back E os i u = wand 𝓤 (Cell E i (some u)) (sem 𝓛 (Locals E (set os i (some u))))

  -- by recursion on the local's number, whatever it holds
  one_out : (E : List (Ty × ℕ)) (os : List (Option Val)) (i : ℕ) → T (within E i) → ent 𝓤 (sem 𝓛 (Locals E os)) (sep 𝓤 (Cell E i (at os i)) (all 𝓤 (Back E os i)))
  unfolding Locals
  one_out [] os i ok = absurd ok
  one_out (e ∷ E) os zero ok =
      qed 𝓛 (‵ (Locals (e ∷ E) os) ∷ []) ∵ fsplit ! $ fsplit ! $ frame ! $
      each ! (Back (e ∷ E) os zero) (λ u. assume ! (‵ (cell e.0 e.1 (some u))) $ move ! (0 ∷ 1 ∷ []) $ fjoin ! $ fjoin ! $ done !)
  one_out (e ∷ E) os (suc i) ok =
      qed 𝓛 (‵ (Locals (e ∷ E) os) ∷ []) ∵ fsplit ! $ move ! (1 ∷ []) $
      use1 𝓛 (raw (Cell E i (at (rest os) i)) ⊛ raw (all 𝓤 (Back E (rest os) i))) (one_out E (rest os) i ok) $ split ! $ frame ! $
      each ! (Back (e ∷ E) os (suc i)) (λ u. assume ! (raw (Cell E i (some u))) $ move ! (1 ∷ []) $ use1 𝓛 (raw (Back E (rest os) i u)) (all_e 𝓤 (Back E (rest os) i) u) $ move ! (1 ∷ 0 ∷ []) $
      use2 𝓛 (‵ (Locals E (set (rest os) i (some u)))) (apply∗ 𝓤 (Cell E i (some u)) (sem 𝓛 (Locals E (set (rest os) i (some u))))) $ move ! (1 ∷ 0 ∷ []) $ fjoin ! $ done !)

  -- and where what it holds is known
  out : {E : List (Ty × ℕ)} {os : List (Option Val)} {i : ℕ} {τ : Ty} {o : Option Val} → Here 𝓤 H E os i τ o → ent 𝓤 (sem 𝓛 (Locals E os)) (sep 𝓤 (Cell E i o) (all 𝓤 (Back E os i)))
  out {E} {os} {i} h = subst (λ (x : Option Val). ent 𝓤 (sem 𝓛 (Locals E os)) (sep 𝓤 (Cell E i x) (all 𝓤 (Back E os i)))) (holds h) (one_out E os i (inside h))

  -- whatever it holds, its memory is room again
  cell_room : (τ : Ty) (b : ℕ) (o : Option Val) → ent 𝓤 (sem 𝓛 (cell τ b o)) (H.room τ b zero)
  cell_room τ b none = id⊢ 𝓤 (H.room τ b zero)
  cell_room τ b (some v) = 𝓛.laws.at_room τ b zero v

-- ---- the steps of a walk
-- a block for each local
abbrev pub Blocks : List Local → Type 0
Blocks [] = Unit {0}
Blocks (l ∷ ls) = ℕ × Blocks ls

-- the environment that these blocks make
abbrev pub envOf : (ls : List Local) → Blocks ls → List (Ty × ℕ)
envOf [] bs = []
envOf (local τ h ∷ ls) bs = (τ, bs.0) ∷ envOf ls bs.1

-- arguments, as locals hold them
abbrev pub somes : List Val → List (Option Val)
somes [] = []
somes (v ∷ vs) = some v ∷ somes vs

-- arguments fit the locals that they are stored in
abbrev pub AllTyped : List (Ty × ℕ) → List Val → Type 0
AllTyped E [] = Unit {0}
AllTyped [] (v ∷ vs) = ⊥
AllTyped (e ∷ E) (v ∷ vs) = (T (has_ty e.0 v) × WT v) × AllTyped E vs

module _ {M : Type 1} {𝓤 : Ura M} {𝓛 : Logic 𝓤} {K : Type 0} where
  -- a function begins: its locals are allocated
  open 𝓛 use {H}

  pub allocated : K → {Γ : List (Item 𝓤)} (ls : List Local) {Kt : Env 𝓤 H → Goal 𝓤 H} → ((bs : Blocks ls) → Seq K 𝓛 (‵ (Locals (envOf ls bs) []) ∷ Γ) (Kt (envOf ls bs))) → Seq K 𝓛 Γ (allocs ls Kt)
  unfolding Locals
  allocated t {Γ} [] {Kt} k = alloc0 t $ use0 𝓛 (‵ (Locals [] [])) (id⊢ 𝓤 (emp 𝓤)) $ k tt
  allocated t {Γ} (local τ h ∷ ls) {Kt} k = alloc1 t (λ b. allocated t {Γ = ‵ (froom τ b zero) ∷ ‵ (fdies τ b) ∷ Γ} ls {Kt = λ E. Kt ((τ, b) ∷ E)} (λ bs. move t (1 ∷ 2 ∷ []) $ fjoin t $ fjoin t $ k (b, bs)))

  -- its arguments are stored, in the locals after the result's
  passed_all : K → (E : List (Ty × ℕ)) (vs : List Val) {Γ : List (Item 𝓤)} {g : Goal 𝓤 H} → AllTyped E vs → Seq K 𝓛 (‵ (Locals E (somes vs)) ∷ Γ) g → Seq K 𝓛 (‵ (Locals E []) ∷ Γ) (passes E vs g)
  unfolding Locals
  passed_all t E [] ok s = pass0 t $ s
  passed_all t [] (v ∷ vs) ok s = absurd ok
  passed_all t (e ∷ E) (v ∷ vs) ok s = fsplit t $ fsplit t $ pass1 t (init t 0 refl ok.0) $ move t (2 ∷ []) $ passed_all t E vs ok.1 (move t (1 ∷ 2 ∷ []) $ fjoin t $ fjoin t $ s)

  pub passed : K → {Γ : List (Item 𝓤)} {g : Goal 𝓤 H} {e : Ty × ℕ} {E : List (Ty × ℕ)} {vs : List Val} → AllTyped E vs → Step K 𝓛 (‵ (Locals (e ∷ E) (none ∷ somes vs)) ∷ Γ) g (‵ (Locals (e ∷ E) []) ∷ Γ) (params' (e ∷ E) vs g)
  unfolding Locals
  passed t {Γ} {g} {e} {E} {vs} ok = step (λ s. params1 t $ fsplit t $ move t (1 ∷ []) $ passed_all t E vs ok (move t (1 ∷ 0 ∷ []) $ fjoin t $ s))

  -- its locals are freed
  freed_all : K → {Γ : List (Item 𝓤)} {g : Goal 𝓤 H} (E : List (Ty × ℕ)) (os : List (Option Val)) → Seq K 𝓛 Γ g → Seq K 𝓛 (‵ (Locals E os) ∷ Γ) (frees E g)
  unfolding Locals
  freed_all t [] os s = drop t $ free0 t $ s
  freed_all t (e ∷ E) os s = fsplit t $ fsplit t $ use1 𝓛 (‵ (froom e.0 e.1 zero)) (cell_room 𝓛 e.0 e.1 (first os)) $ free1 t $ freed_all t E (rest os) s

  -- a place within a local
  pub within_local : K → {Γ : List (Item 𝓤)} {E : Env 𝓤 H} {os : List (Option Val)} {i : ℕ} {τ : Ty} {o : Option Val} {st : List PStep} {sp : Spot 𝓤 H} → Here 𝓤 H E os i τ o → Walks K 𝓛 Γ E (τ, (spot_of 𝓤 H E i).1, zero) st sp → Finds K 𝓛 Γ E (place i st) sp
  within_local t {Γ} {E} {os} {i} {st = st} {sp = sp} e w = from t (subst (λ (τ : Ty). Walks K 𝓛 Γ E (τ, (spot_of 𝓤 H E i).1, zero) st sp) (sym (typed e)) w)

  -- a local that holds a value is a part of the entry, to be read and written
  pub held : K → {E : List (Ty × ℕ)} {os : List (Option Val)} (i : ℕ) {τ : Ty} {v : Val} → Here 𝓤 H E os i τ (some v) → Part K 𝓛 (‵ (Locals E os)) full_share τ (spot_of 𝓤 H E i).1 zero v (λ u. ‵ (Locals E (set os i (some u))))
  held t {E} {os} i {τ} {v} h =
      subst (λ (σ : Ty). Part K 𝓛 (‵ (Locals E os)) full_share σ (spot_of 𝓤 H E i).1 zero v (λ u. ‵ (Locals E (set os i (some u))))) (typed h)
      (record { out = out 𝓛 h; same = ap (λ (ps : List (Option Val)). ‵ (Locals E ps)) (set_same os i v (holds h)) })

  module _ {Γ : List (Item 𝓤)} where
    -- a local as an operand: the entry stands at n
    pub var : K → {E : Env 𝓤 H} {os : List (Option Val)} {i : ℕ} {τ : Ty} {v : Val} (n : ℕ) → nth 𝓛 n Γ ≡ ‵ (Locals E os) → Here 𝓤 H E os i τ (some v) → Opd K 𝓛 Γ E (copy (place i [])) v
    var t {E} {os} {i} {τ} {v} n en e = load t (within_local t e (stop t)) (look_in t n (subst (λ (x : Item 𝓤). Part K 𝓛 x full_share τ (spot_of 𝓤 H E i).1 zero v (λ u. ‵ (Locals E (set os i (some u))))) (sym en) (held t i e)))

    -- a statement's result goes to a local that is empty
    pub made : K → {E : Env 𝓤 H} {os : List (Option Val)} (i : ℕ) {τ : Ty} {v : Val} → Here 𝓤 H E os i τ none → T (has_ty τ v) × WT v
        → Writes K 𝓛 (‵ (Locals E os) ∷ Γ) (spot_of 𝓤 H E i).0 (spot_of 𝓤 H E i).1 zero v (‵ (Locals E (set os i (some v))) ∷ Γ)
    made t {E} {os} i {v = v} h wt =
        let τ = (spot_of 𝓤 H E i).0 in
        let b = (spot_of 𝓤 H E i).1 in
        let back : Val → Item 𝓤 = λ u. ‵ (Locals E (set os i (some u))) in
        let Γ₀ = ‵ (Locals E os) ∷ Γ in
        record {
          go = λ P k.
              via 𝓤 (sep 𝓤 (H.room τ b zero) (wand 𝓤 (H.at full_share τ b zero v) P))
              (via 𝓤 (sep 𝓤 (sem 𝓛 (Locals E os)) (⋆ 𝓛 Γ)) (pop 𝓛 (‵ (Locals E os)) Γ)
              (via 𝓤 (sep 𝓤 (sep 𝓤 (H.room τ b zero) (all 𝓤 (Back 𝓛 E os i))) (⋆ 𝓛 Γ)) (mono_l 𝓤 (⋆ 𝓛 Γ) (out 𝓛 h))
              (via 𝓤 (sep 𝓤 (H.room τ b zero) (Rest 𝓛 Γ₀ 0 full_share τ b zero back)) (assoc∗ 𝓤 (H.room τ b zero) (all 𝓤 (Back 𝓛 E os i)) (⋆ 𝓛 Γ))
              (mono_r 𝓤 (H.room τ b zero) (wand_i 𝓤 (Rest 𝓛 Γ₀ 0 full_share τ b zero back) (H.at full_share τ b zero v) P
              (via 𝓤 (sep 𝓤 (sem 𝓛 (Locals E (set os i (some v)))) (⋆ 𝓛 Γ)) (given_back 𝓛 Γ₀ 0 full_share τ b zero back v)
              (via 𝓤 (⋆ 𝓛 (back v ∷ Γ)) (push 𝓛 (back v) Γ) k)))))))
              (guard_i 𝓤 (T (has_ty τ v) × WT v) (sep 𝓤 (H.room τ b zero) (wand 𝓤 (H.at full_share τ b zero v) P)) (subst (λ (σ : Ty). T (has_ty σ v) × WT v) (sym (typed h)) wt));
        }

    -- a function ends: what its first local holds is its result, and all locals are freed
    pub leaves : K → {E : Env 𝓤 H} {os : List (Option Val)} {C : Calls 𝓤 H} {Λ : Loops 𝓤 H} {Kf : Val → SProp 𝓤} {τ : Ty} {r : Val} → Here 𝓤 H E os 0 τ (some r) → Step K 𝓛 Γ (prop (Kf r)) (‵ (Locals E os) ∷ Γ) (runs C Λ E return (at_ret E Kf))
    leaves t {E} {os} h = step (λ k. returns t (look_in t 0 (held t 0 (record { seen = λ j. ((h.seen j).0, ((spot_of 𝓤 H E 0).0, (h.seen j).1.1)) }))) $ freed_all t E os k)
