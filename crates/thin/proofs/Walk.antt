-- The walk of a thin call's body, for any kind of session and any other parameters:
--     let out = work(*s, ..); *s = out.session; out.outcome
-- In MIR local 0 is the outcome and 1 the session's reference. Then come the other parameters, `out`, the session's copy, what lends the slices again, and the session that came back.
use mathlib.Core.Path.{◌≡◌, refl, sym, ap}
use Prim.Native.Nat.{ℕ, suc}
use mathlib.Core.List.{[], ◌∷◌, List}
use mathlib.Core.Option.{Option, none, some}
use seplogic.Ra.Ura.{Ura}
use base.Fraction.{full_share}
use mir.Syntax.{ty_struct, tnil, tcons, Ty, Callee, Opd as Operand, call, Fn, named, place, deref, field, copy, rv_opd, Body, seq, assign, return}
use mir.Val.{Val, vstruct, vcons, vnil, vptr}
use base.Logic.{SProp, ent, sep, id⊢}
use base.Fml.{GName, Lft, Share, Fml, flft, fobs, fauth, fbor, fobor, fsep}
use prog.Wp.{Heap, Env, spot_of, Calls, Loops, WpFn, Tables}
use types.Logic.{Logic, sem}
use contract.Lifetimes.{Lfts, Shares, toks}
use types.Kit.{Item, Post, Seq, runs, prop, at_ret, ‵, raw, some as exists, later, ◌⊛◌, ⋆, ◌$◌, ◌∵◌, !, qed, move, drop, use1, use2, split, join, pick, rewrite, fsplit, fsplit3, fjoin, fjoin3, feq_i, suffices, frame, await, done}
use types.Run.{Opds, look_raw, store_raw, stop, hop, fld, from, load, of_opd, and_then, assigns, land}
use types.Part.{sub, look_in}
use types.SemTy.{Body as Within}
use sound.WpLaws.{FmC, WpFn-mono}
use lib.ListN.{length}
use denote.RattleType.{RattleType, Denots, Valss, owns, flat}
use denote.Laws.{Is, Ises, Are, valss, shows}
use denote.Memory.{mem, cell_at}
use denote.Ref.{MutBor, MutRef, mut_vals, mut_Tells}
use denote.Signature.{Slot, plain, mut_ref_to, types_at}
use denote.Steps.{only, opens, closes, owned, peeks}
use denote.Struct.Steps.{spelt}
use denote.Triple.Entry.{on_entry}
use denote.Triple.End.{Kepts, Fins, lasts_of}
use denote.Triple.Spec.{Meets, triple_of}
use denote.Triple.Statement.{Contract, Triple}
use denote.Triple.Call.{calls_at}
use denote.Triple.Clauses.{Ended, Clauses, Lasts, at_exit, lasts, ensured, closing}
use denote.Triple.Walked.{Stays, stay_ref, walk_of, Goes-ref, ends_at, walked, walk_Meets}
use denote.Exit.{yes}
use Rattle.thin.proofs.Locals.{Locals, set, is, see, Here, here_set, within_local, held, made, var, leaves}
use Rattle.thin.proofs.Kind.{Kind}
use Rattle.thin.proofs.Others.{Params, spells, all_tell, Passed, vals_of, AllFit, stays_said, said_fit, said_had, said_go, lending, operands, lent_to, lends, lent_seen, lent_wanted, read_seen, read_wanted, nth_seen, lent_all, read_all, same_values}

module _ (J : Kind) where
  -- the three types: the session's, the outcome's, and that of both. Their values, MIR types and machine values
  abbrev S : RattleType
  S = J.the_session

  abbrev O : RattleType
  O = J.the_outcome

  abbrev B : RattleType
  B = J.the_after

  abbrev pub Session : Type 0
  Session = S.Denot

  abbrev pub After : Type 0
  After = B.Denot

  abbrev τS : Ty
  τS = J.s.mir

  abbrev pub τO : Ty
  τO = J.o.mir

  abbrev τB : Ty
  τB = ty_struct J.name (tcons τS (tcons τO tnil))

  abbrev val : Session → Val
  val = J.s.val

  abbrev out : After → Val
  out r = J.o.val (J.outcome r)

  abbrev both : After → Val
  both r = vstruct (vcons (val (J.session r)) (vcons (out r) vnil))

  -- ---- the body
  -- what follows the slices' lending, with `out` as local i and what comes back of the session as local j
  abbrev ending : ℕ → ℕ → Callee → List Operand → Body
  ending i j f ops = seq (call f (copy (place (suc i) []) ∷ ops) (place i [])) (seq (assign (place j []) (rv_opd (copy (place i (field 0 ∷ []))))) (seq (assign (place 1 (deref τS ∷ [])) (rv_opd (copy (place j [])))) (seq (assign (place 0 []) (rv_opd (copy (place i (field 1 ∷ []))))) return)))

  abbrev pub body_of : Callee → List Passed → Body
  body_of f xs =
      let i = suc (suc (length xs)) in
      seq (assign (place (suc i) []) (rv_opd (copy (place 1 (deref τS ∷ []))))) (lending 2 (suc (suc i)) xs (ending i (lent_to (suc (suc i)) xs) f (operands 2 (suc (suc i)) xs)))

  -- what the body asks of the locals, whatever values x and y `out` and the session that comes back take
  abbrev pub Ready : {M : Type 1} (𝓤 : Ura M) (H : Heap 𝓤) (E : Env 𝓤 H) → List (Option Val) → List Passed → ℕ → ℕ → Session → Type 0
  Ready 𝓤 H E os xs b o h =
      let i = suc (suc (length xs)) in
      let os₁ = set os (suc i) (some (val h)) in
      let os₂ = lends os₁ (suc (suc i)) xs in
      let j = lent_to (suc (suc i)) xs in
      let s = is (spot_of 𝓤 H E 1).0 (some (vptr b o)) in
      (x y : Option Val)
      → let os₃ = set (set os₂ i x) j y in
      ((see 𝓤 H E os 1 ∷ see 𝓤 H E os (suc i) ∷ see 𝓤 H E os₂ (suc i) ∷ see 𝓤 H E os₂ i ∷ see 𝓤 H E (set os₂ i x) j ∷ see 𝓤 H E os₃ 1 ∷ see 𝓤 H E os₃ i ∷ see 𝓤 H E os₃ 0 ∷ []) ≡ (s ∷ is τS none ∷ is τS (some (val h)) ∷ is τB none ∷ is τS none ∷ s ∷ is τB x ∷ is τO none ∷ []))
      × (lent_seen 𝓤 H E os₁ 2 (suc (suc i)) xs ≡ lent_wanted xs) × (read_seen 𝓤 H E os₂ 2 (suc (suc i)) xs ≡ read_wanted xs)

  -- ---- what a walk has of the session
  module _ {M : Type 1} (𝓤 : Ura M) (κ : Lft) (q : Share) (γ : GName) (b o : ℕ) where
    -- while its borrow is open: its cell, what it owns, the open borrow, and the two halves of its name
    abbrev opened : Session → List (Item 𝓤) → List (Item 𝓤)
    opened h Γ = ‵ (cell_at full_share (τS ∷ []) (val h ∷ []) b o) ∷ ‵ (S.own_val h (val h ∷ [])) ∷ ‵ (fobor κ q (Within (mem S) b o γ)) ∷ ‵ (fobs γ (S.coded.code h)) ∷ ‵ (fauth γ (S.coded.code h)) ∷ Γ

    -- when the call has returned: its name's half, its borrow and its token; the others' tokens ts and last values ls; and P, what is said of them
    abbrev returned : Session → SProp 𝓤 → Fml → SProp 𝓤 → List (Item 𝓤) → List (Item 𝓤)
    returned h ts ls P Γ = ‵ (fobs γ (S.coded.code h)) ∷ ‵ (fbor κ (Within (mem S) b o γ)) ∷ ‵ (flft κ q) ∷ raw ts ∷ ‵ ls ∷ raw P ∷ Γ

  -- ---- `_i = *s`: the session's borrow is opened, and its cell is read
  module _ {M : Type 1} {𝓤 : Ura M} {𝓛 : Logic 𝓤} {K : Type 0} {Γ : List (Item 𝓤)} {E : Env 𝓤 𝓛.H} {os : List (Option Val)} {C : Calls 𝓤 𝓛.H} {Λ : Loops 𝓤 𝓛.H} {q' : Post 𝓤 𝓛.H} {after : Body} where
    open 𝓛 use {H}

    begins : K → {i : ℕ} {κ : Lft} {q : Share} {γ : GName} {b o : ℕ} {P : SProp 𝓤} {R : Fml} {τ : Ty} (h : Session) → Here 𝓤 H E os 1 τ (some (vptr b o)) → Here 𝓤 H E os i τS none
        → (Is S h (val h ∷ []) → Seq K 𝓛 (‵ (Locals E (set os i (some (val h)))) ∷ opened 𝓤 κ q γ b o h (raw P ∷ ‵ R ∷ Γ)) (runs C Λ E after q'))
        → Seq K 𝓛 (‵ (Locals E os) ∷ (‵ (flft κ q) ⊛ raw P) ∷ ‵ (fsep ((MutRef (named 0) κ S).own_val (record { ref_ptr = (b, o); ghost_name = γ; now = h }) (vptr b o ∷ [])) R) ∷ Γ) (runs C Λ E (seq (assign (place i []) (rv_opd (copy (place 1 (deref τS ∷ []))))) after) q')
    begins t {i} {b = b} {o = o} h me copied k =
        move t (2 ∷ []) $ fsplit t $ fsplit3 t $ drop t $ move t (4 ∷ []) $ split t $ move t (2 ∷ 3 ∷ 0 ∷ []) $
        opens t tt S {h = h} b o (λ vs. spelt t S (Is S) (shows 𝓛 S) (λ x. val x ∷ []) J.s.tells full_share h vs b o $ rewrite t 0 (λ (τs : List Ty). ‵ (cell_at full_share τs (val h ∷ []) b o)) J.s.one refl $
        move t (1 ∷ []) $ peeks t S (Is S) (shows 𝓛 S) h (val h ∷ []) (λ was. move t (7 ∷ 1 ∷ 0 ∷ []) $
        assigns t (of_opd t (load t (within_local t me (hop t (look_in t 0 (held t 1 me)) (stop t))) (look_raw t 1 refl))) (from t (stop t)) (made t i copied (J.s.typed 𝓛 h _ was)) $ k was))

  -- ---- the call by value, whose other parameters have the places ss
  module _ (n : ℕ) (ss : List (Slot n)) (ks : Kepts ss) where
    abbrev pub by_value : Ended
    by_value = record { signature = record { lifetimes = n; outlives = []; params = plain (λ _. S) ∷ ss; result = plain (λ _. B) }; kept = (yes, ks) }

    module _ {M : Type 1} {𝓤 : Ura M} (𝓛 : Logic 𝓤) (c : Clauses 𝓤 by_value) (κs : Lfts n) (qs : Shares n) (h : Session) (a : Denots (types_at ss κs)) (vss : Valss (types_at ss κs)) (g : (c κs (h, a)).ghost) where
      -- its contract, and what it is called with
      open 𝓛 use {H}

      abbrev Work : Contract 𝓤
      Work = triple_of 𝓛 by_value.signature (closing 𝓛 by_value c)

      abbrev asked : Work.Ghost
      asked = ((κs, qs, tt, (h, a), (val h ∷ [], vss)), g)

      -- what it asks: the tokens and what the other parameters own go to it as they are
      goes_in : Is S h (val h ∷ []) → ent 𝓤 (sep 𝓤 (sep 𝓤 (toks 𝓛 n κs qs) (sem 𝓛 (owns (types_at ss κs) a vss))) ((c κs (h, a)).requires g)) (Work.pre asked)
      goes_in was =
          qed 𝓛 ((raw (toks 𝓛 n κs qs) ⊛ ‵ (owns (types_at ss κs) a vss)) ∷ raw ((c κs (h, a)).requires g) ∷ []) ∵ split ! $ move ! (1 ∷ 2 ∷ []) $
          owned ! S (Is S) (J.s.makes 𝓛) h _ was $ fjoin ! $ move ! (2 ∷ 0 ∷ []) $ join ! $ frame ! $ done !

      -- what is left to show of a thin call once it has returned, with P said of what came back
      abbrev Returned : Type 0 → List (Item 𝓤) → Lft → Share → GName → ℕ → ℕ → (After → Fins κs ss ks a → SProp 𝓤) → (Val → SProp 𝓤) → Type 1
      Returned K Γ κ q γ b o P Kf =
          (r : After) (ws : Fins κs ss ks a) → Is O (J.outcome r) (out r ∷ [])
          → Seq K 𝓛 (returned 𝓤 κ q γ b o (J.session r) (toks 𝓛 n κs qs) (lasts_of κs ss ks a ws) (P r ws) Γ) (prop (Kf (out r)))

      -- the call, `_j = out.session`, `*s = _j`, `_0 = out.outcome`; the borrow is closed and the function returns
      ends : {K : Type 0} {Γ : List (Item 𝓤)} → K → {E : Env 𝓤 H} {os : List (Option Val)} {C : Calls 𝓤 H} {Λ : Loops 𝓤 H} {f : Callee} {ops : List Operand} {Kf : Val → SProp 𝓤} {κ : Lft} {q : Share} {γ : GName} {i j b o : ℕ} {τ : Ty}
          → FmC 𝓤 H 𝓛.laws C → Triple 𝓤 (C f) Work → Is S h (val h ∷ [])
          → Opds K 𝓛 (raw (Work.pre asked) ∷ ‵ (Locals E os) ∷ opened 𝓤 κ q γ b o h Γ) E (copy (place (suc i) []) ∷ ops) (Work.args asked)
          → (P : After → Fins κs ss ks a → SProp 𝓤) → ((r : After) (ws : Lasts by_value κs (h, a)) → ent 𝓤 ((c κs (h, a)).ensures g r (at_exit by_value κs (h, a) ws)) (P r ws.1))
          → Here 𝓤 H E os i τB none → ((x : Option Val) → Here 𝓤 H E (set os i x) j τS none)
          → ((x y : Option Val) → Here 𝓤 H E (set (set os i x) j y) 1 τ (some (vptr b o))) → ((x y : Option Val) → Here 𝓤 H E (set (set os i x) j y) i τB x) → ((x y : Option Val) → Here 𝓤 H E (set (set os i x) j y) 0 τO none)
          → Returned K Γ κ q γ b o P Kf
          → Seq K 𝓛 (‵ (Locals E os) ∷ opened 𝓤 κ q γ b o h (raw (toks 𝓛 n κs qs) ∷ ‵ (owns (types_at ss κs) a vss) ∷ raw ((c κs (h, a)).requires g) ∷ Γ)) (runs C Λ E (ending i j f ops) (at_ret E Kf))
      ends {K} {Γ} t {E} {os} {i = i} {j = j} {b = b} {o = o} fm known was ops P tells room next me still result k =
          move t (6 ∷ 7 ∷ 8 ∷ []) $ join t $ use2 𝓛 (raw (Work.pre asked)) (goes_in was) $ calls_at t fm Work known asked ops (λ w.
          use1 𝓛 (later (exists (λ (r : After). (raw (toks 𝓛 n κs qs) ⊛ ‵ (B.own_val r (w ∷ []))) ⊛ raw (ensured 𝓛 by_value c κs (h, a) g r)))) (id⊢ 𝓤 _) $ await t tt $ pick t (λ r.
          split t $ move t (1 ∷ []) $ use1 𝓛 (exists (λ (ws : Lasts by_value κs (h, a)). ‵ (lasts by_value κs (h, a) ws) ⊛ raw ((c κs (h, a)).ensures g r (at_exit by_value κs (h, a) ws)))) (id⊢ 𝓤 _) $ pick t (λ ws.
          split t $ fsplit t $ drop t $ move t (1 ∷ []) $ use1 𝓛 (raw (P r ws.1)) (tells r ws) $ move t (2 ∷ 1 ∷ []) $ split t $ move t (1 ∷ []) $
          peeks t B (Is B) (shows 𝓛 B) r (w ∷ []) (λ is. drop t $
          let o₁ : Option Val = some (both r) in
          let o₂ : Option Val = some (val (J.session r)) in
          let full = here_set room o₁ in
          -- [the tokens; the last values; what is said of them; the locals; the cell; what a session owns; the open borrow; obs; auth]
          move t (3 ∷ 4 ∷ []) $
          land t (from t (stop t)) (made t i room (J.typed 𝓛 r _ is)) $
          rewrite t 0 (λ (x : Val). ‵ (Locals E (set os i (some x)))) (ap only (J.tells r _ is)) refl $
          let fits = J.s.typed 𝓛 (J.session r) _ (J.session_is r _ is) in
          assigns t (of_opd t (load t (within_local t full (fld t refl (stop t))) (look_in t 0 (sub t 0 refl (held t i full))))) (from t (stop t)) (made t j (next o₁) fits) $
          assigns t (of_opd t (var t 0 refl (here_set (next o₁) o₂))) (within_local t (me o₁ o₂) (hop t (look_in t 0 (held t 1 (me o₁ o₂))) (stop t))) (store_raw t 1 refl fits) $
          assigns t (of_opd t (load t (within_local t (still o₁ o₂) (fld t refl (stop t))) (look_in t 0 (sub t 1 refl (held t i (still o₁ o₂)))))) (from t (stop t)) (made t 0 (result o₁ o₂) (J.o.typed 𝓛 (J.outcome r) _ (J.outcome_is r _ is))) $
          -- [the locals; the cell; the tokens; the last values; what is said of them; what a session owns; the open borrow; obs; auth]
          move t (5 ∷ []) $ drop t $ owned t S (Is S) (J.s.makes 𝓛) (J.session r) _ (J.session_is r _ is) $ move t (2 ∷ 0 ∷ 6 ∷ 7 ∷ 8 ∷ []) $ rewrite t 0 (λ (τs : List Ty). ‵ (cell_at full_share τs (val (J.session r) ∷ []) b o)) (sym J.s.one) refl $ closes {Γ = ‵ (Locals E (set (set (set os i o₁) j o₂) 0 (some (out r)))) ∷ raw (toks 𝓛 n κs qs) ∷ ‵ (lasts_of κs ss ks a ws.1) ∷ raw (P r ws.1) ∷ Γ} t tt S (J.session r) (val (J.session r) ∷ []) b o $
          move t (3 ∷ []) $ leaves t (here_set (result o₁ o₂) (some (out r))) $ k r ws.1 (J.outcome_is r _ is)))))

      -- all of the body: `begins`, the lending, `ends`
      pub walks : {K : Type 0} {Γ : List (Item 𝓤)} → K → {E : Env 𝓤 H} {C : Calls 𝓤 H} {Λ : Loops 𝓤 H} {Kf : Val → SProp 𝓤} {κ : Lft} {q : Share} {γ : GName} {b o : ℕ} (os : List (Option Val)) (f : Callee) (xs : List Passed)
          → FmC 𝓤 H 𝓛.laws C → Triple 𝓤 (C f) Work → AllFit xs → vals_of xs ≡ flat (types_at ss κs) vss → Ready 𝓤 H E os xs b o h
          → (P : After → Fins κs ss ks a → SProp 𝓤) → ((r : After) (ws : Lasts by_value κs (h, a)) → ent 𝓤 ((c κs (h, a)).ensures g r (at_exit by_value κs (h, a) ws)) (P r ws.1))
          → Returned K Γ κ q γ b o P Kf
          → Seq K 𝓛 (‵ (Locals E os) ∷ (‵ (flft κ q) ⊛ raw (toks 𝓛 n κs qs)) ∷ ‵ (fsep ((MutRef (named 0) κ S).own_val (record { ref_ptr = (b, o); ghost_name = γ; now = h }) (vptr b o ∷ [])) (owns (types_at ss κs) a vss)) ∷ raw ((c κs (h, a)).requires g) ∷ Γ) (runs C Λ E (body_of f xs) (at_ret E Kf))
      walks {K} {Γ} t {E} {b = b} {o = o} os f xs fm known fit vals ready P tells k =
          let i = suc (suc (length xs)) in
          let os₁ = set os (suc i) (some (val h)) in
          let os₂ = lends os₁ (suc (suc i)) xs in
          let τ = (spot_of 𝓤 H E 1).0 in
          let any = ready none none in
          let me : Here 𝓤 H E os 1 τ (some (vptr b o)) = record { seen = ap (nth_seen 0) any.0 } in
          let copied : Here 𝓤 H E os (suc i) τS none = record { seen = ap (nth_seen 1) any.0 } in
          let copy-held : Here 𝓤 H E os₂ (suc i) τS (some (val h)) = record { seen = ap (nth_seen 2) any.0 } in
          let room : Here 𝓤 H E os₂ i τB none = record { seen = ap (nth_seen 3) any.0 } in
          begins t h me copied (λ was. lent_all t os₁ 2 (suc (suc i)) xs any.1 fit $
          ends t fm known was (same_values t vals (and_then t (var t 1 refl copy-held) (read_all t os₂ 2 (suc (suc i)) xs any.2))) P tells room
          (λ x. record { seen = ap (nth_seen 4) (ready x none).0 }) (λ x y. record { seen = ap (nth_seen 5) (ready x y).0 }) (λ x y. record { seen = ap (nth_seen 6) (ready x y).0 }) (λ x y. record { seen = ap (nth_seen 7) (ready x y).0 }) k)

  -- ---- the thin call, whose other parameters have the places ss
  module _ (n : ℕ) (ss : List (Slot (suc n))) (ks : Kepts ss) where
    abbrev pub thin : Ended
    thin = record { signature = record { lifetimes = suc n; outlives = []; params = mut_ref_to (0 ∷ []) tt (plain (λ _. S)) ∷ ss; result = plain (λ _. O) }; kept = (yes, ks) }

    -- what it has of its parameters at exit: the session's reference, which it never gave away, and what was said of the others
    abbrev stayed : Stays thin.signature.params thin.kept
    stayed = (stay_ref (0 ∷ []) tt (plain (λ _. S)), stays_said ss ks)

    module _ {M : Type 1} {𝓤 : Ura M} (𝓛 : Logic 𝓤) (c : Clauses 𝓤 thin) (κ : Lft) (κs : Lfts n) (q : Share) (qs : Shares n) (b o : ℕ) (γ : GName) (h : Session) (a : Denots (types_at ss (κ, κs))) (vss : Valss (types_at ss (κ, κs))) where
      -- its arguments, and what is to be shown when it returns
      abbrev args : MutBor Session × Denots (types_at ss (κ, κs))
      args = (record { ref_ptr = (b, o); ghost_name = γ; now = h }, a)

      abbrev Ends : (c (κ, κs) args).ghost → Val → SProp 𝓤
      Ends g = (walk_of 𝓛 thin stayed c).post (((κ, κs), (q, qs), tt, args, (vptr b o ∷ [], vss)), g)

      -- what the walk ends with is that
      pub exits : (g : (c (κ, κs) args).ghost) (r : After) (ws : Fins (κ, κs) ss ks a) → Is O (J.outcome r) (out r ∷ [])
          → ent 𝓤 (⋆ 𝓛 (returned 𝓤 κ q γ b o (J.session r) (toks 𝓛 n κs qs) (lasts_of (κ, κs) ss ks a ws) ((c (κ, κs) args).ensures g (J.outcome r) (at_exit thin (κ, κs) args (J.session r, ws))) [])) (Ends g (out r))
      exits g r ws is =
          qed 𝓛 (returned 𝓤 κ q γ b o (J.session r) (toks 𝓛 n κs qs) (lasts_of (κ, κs) ss ks a ws) ((c (κ, κs) args).ensures g (J.outcome r) (at_exit thin (κ, κs) args (J.session r, ws))) []) ∵
          suffices ! _ (ends_at 𝓛 thin stayed c (((κ, κs), (q, qs), tt, args, (vptr b o ∷ [], vss)), g) (out r) (J.outcome r) (J.session r, ws) (tt, said_fit (κ, κs) ss ks a ws)) $
          move ! (5 ∷ []) $ owned ! O (Is O) (J.o.makes 𝓛) (J.outcome r) _ is $ rewrite ! 6 (λ (P : Fml). ‵ P) (said_had (κ, κs) ss ks a ws vss) refl $
          move ! (2 ∷ 3 ∷ []) $ feq_i ! (List Val) (vptr b o ∷ []) (vptr b o ∷ []) refl $ fjoin3 ! $ move ! (0 ∷ 5 ∷ []) $ fjoin ! $ move ! (0 ∷ 1 ∷ []) $ join ! $
          -- [what is had of the parameters, and the result; the clause; the session's token; the others']
          move ! (2 ∷ 3 ∷ []) $ join ! $ join ! $ frame ! $ done !

    -- ---- from the walk to the contract
    module _ {M : Type 1} {𝓤 : Ura M} (𝓛 : Logic 𝓤) (c : Clauses 𝓤 thin) (fn : Fn) (𝓣 : Tables 𝓤 𝓛.H) (ps : (κs : Lfts (suc n)) → Params (types_at ss κs)) where
      -- what a walk of the function is: from what it has on entry to what is to be shown
      open 𝓛 use {H}

      abbrev pub Walk : Type 1
      Walk =
          (κ : Lft) (κs : Lfts n) (q : Share) (qs : Shares n) (b o : ℕ) (γ : GName) (h : Session) (a : Denots (types_at ss (κ, κs)))
          → let vss = valss (types_at ss (κ, κs)) (spells (types_at ss (κ, κs)) (ps (κ, κs))) a in
          (g : (c (κ, κs) (args 𝓛 c κ κs q qs b o γ h a vss)).ghost)
          → Are (types_at ss (κ, κs)) (Ises (types_at ss (κ, κs))) a vss
          → ent 𝓤 (sep 𝓤 (on_entry 𝓛 thin.signature (κ, κs) (q, qs) (args 𝓛 c κ κs q qs b o γ h a vss) (vptr b o ∷ [], vss)) ((c (κ, κs) (args 𝓛 c κ κs q qs b o γ h a vss)).requires g))
          (WpFn 𝓤 H 𝓣.C 𝓣.Λ fn (vptr b o ∷ flat (types_at ss (κ, κs)) vss) (Ends 𝓛 c κ κs q qs b o γ h a vss g))

      pub thin_meets : Walk → Meets 𝓛 thin.signature (WpFn 𝓤 H 𝓣.C 𝓣.Λ fn) (closing 𝓛 thin c)
      thin_meets walk =
          walk_Meets 𝓛 thin stayed (Goes-ref 𝓛 (suc n) 0 tt (plain (λ _. S)), said_go 𝓛 ss ks) c (WpFn 𝓤 H 𝓣.C 𝓣.Λ fn) (WpFn-mono 𝓤 H 𝓛.laws 𝓣 fn)
          (walked 𝓛 thin stayed c (WpFn 𝓤 H 𝓣.C 𝓣.Λ fn) (λ κs. (mut_vals, spells (types_at ss κs) (ps κs))) (λ κs. (mut_Tells (named 0) κs.0 S, all_tell (types_at ss κs) (ps κs)))
          (λ κs qs bounds a g are. walk κs.0 κs.1 qs.0 qs.1 a.0.ref_ptr.0 a.0.ref_ptr.1 a.0.ghost_name a.0.now a.1 g are.1))
