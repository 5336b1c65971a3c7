-- The parameters of a call after the session. A thin call looks into none of them. It hands each to the call by value, a `&mut` slice by lending it again, and says of each at exit what that call said.
use mathlib.Core.Path.{◌≡◌, refl, ap, subst}
use Prim.Native.Nat.{ℕ, zero, suc}
use mathlib.Core.List.{[], ◌∷◌, List}
use mathlib.Core.Option.{Option, none, some}
use mathlib.Core.Bool.{false}
use seplogic.Ra.Ura.{Ura}
use mir.Syntax.{Ty, Opd as Operand, Lifetime, named, place, deref, field, copy, addr_of, aggregate, Body, seq, assign, ty_ref, erased, imm, mut, ty_float, ty_int, w64}
use mir.Val.{WT, has_ty, Val, vfloat, vint, vptr}
use base.Fml.{fsep}
use prog.Wp.{Heap, Env, Calls, Loops}
use types.Logic.{Logic}
use contract.Lifetimes.{Lfts}
use types.Kit.{Item, Post, Step, step, runs, ‵, ◌$◌}
use types.Run.{Opds, stop, hop, fld, from, load, addr, and_then, no_more, assigns}
use types.Part.{agg, sub, look_in}
use lib.Dec.{T}
use lib.ListN.{length, get_or, drop}
use lib.Ieee.{binary64}
use denote.RattleType.{RattleType, Denots, Valss, flat}
use denote.Laws.{Tells, Is, Ises, Are, Spells, Tellss, valss}
use denote.Plain.{uint_Tells}
use denote.Floats.{float_Tells, passes}
use denote.Builtin.{usize, f64}
use denote.Slice.{ShrSlice, MutSlice, slice_ty, slice_val, shr_slice_Tells, mut_slice_Tells}
use denote.Signature.{Slot, plain, types_at}
use denote.Triple.End.{Kepts, Fins, lasts_of}
use denote.Triple.Walked.{Stays, fits_of, has_of, AllGo}
use denote.Exit.{left}
use Rattle.thin.proofs.Locals.{Locals, set, Seen, is, see, Here, here_set, within_local, held, made, var}

-- ---- what they are
-- the types that the calls have. Another number's is a constructor here and a line in each of `lifetimes`, `slots` and `params`
pub data Other : Type 0 where
  a_usize : Other
  a_f64 : Other
  a_slice : Other  -- &[f64]
  a_mut_slice : Other  -- &mut [f64]

-- how many lifetimes they have: each slice one of its own, in the order of the parameters, as Rattle numbers those that the source leaves out
abbrev pub lifetimes : List Other → ℕ
lifetimes [] = zero
lifetimes (a_usize ∷ xs) = lifetimes xs
lifetimes (a_f64 ∷ xs) = lifetimes xs
lifetimes (a_slice ∷ xs) = suc (lifetimes xs)
lifetimes (a_mut_slice ∷ xs) = suc (lifetimes xs)

-- their places in a signature of n lifetimes, in which theirs begin with the number k. `from-k` takes theirs out of all
abbrev pub slots : {n : ℕ} (k : ℕ) (xs : List Other) → (Lfts n → Lfts (lifetimes xs)) → List (Slot n)
slots k [] from-k = []
slots k (a_usize ∷ xs) from-k = plain (λ _. usize) ∷ slots k xs from-k
slots k (a_f64 ∷ xs) from-k = plain (λ _. f64) ∷ slots k xs from-k
slots k (a_slice ∷ xs) from-k = plain (λ κs. ShrSlice (named k) (from-k κs).0 f64) ∷ slots (suc k) xs (λ κs. (from-k κs).1)
slots k (a_mut_slice ∷ xs) from-k = plain (λ κs. MutSlice (named k) (from-k κs).0 f64) ∷ slots (suc k) xs (λ κs. (from-k κs).1)

-- ---- how one is passed on
-- as it is, with its MIR type and machine value; or, a `&mut` slice, lent again, with its lifetime, pointer and count
pub data Passed : Type 0 where
  as_is : Ty → Val → Passed
  lent : Lifetime → ℕ × ℕ → ℕ → Passed

-- an f64's MIR type: the element of every slice
abbrev number : Ty
number = ty_float binary64

-- its MIR type, its machine value, and that the one fits the other
abbrev pub ty_of : Passed → Ty
ty_of (as_is τ v) = τ
ty_of (lent ℓ p c) = slice_ty (ty_ref ℓ mut number)

abbrev pub val_of : Passed → Val
val_of (as_is τ v) = v
val_of (lent ℓ p c) = slice_val p c

abbrev Fit : Passed → Type 0
Fit x = T (has_ty (ty_of x) (val_of x)) × WT (val_of x)

-- ---- what the walk takes of a parameter
-- of one whose type is R: how it is passed on, and that what R says of it makes that its machine value, and lets it fit
pub record Param (R : RattleType) : Type 2 where
  pub passed : R.Denot → Passed
  pub tells : Tells R (Is R) (λ x. val_of (passed x) ∷ [])
  pub fits : (x : R.Denot) → Is R x (val_of (passed x) ∷ []) → Fit (passed x)

abbrev pub Params : List RattleType → Type 2
Params [] = Unit {2}
Params (R ∷ Rs) = Param R × Params Rs

-- the four types, at their places in the signature
abbrev pub params : (n : ℕ) (κs : Lfts n) (k : ℕ) (xs : List Other) (from-k : Lfts n → Lfts (lifetimes xs)) → Params (types_at {n = n} (slots k xs from-k) κs)
params n κs k [] from-k = tt
params n κs k (a_usize ∷ xs) from-k = (record { passed = λ x. as_is (ty_int w64) (vint w64 x); tells = uint_Tells w64; fits = λ x is. (tt, record { fits = is.1 }) }, params n κs k xs from-k)
params n κs k (a_f64 ∷ xs) from-k = (record { passed = λ x. as_is number (vfloat binary64 x); tells = float_Tells binary64; fits = λ x is. (tt, passes _ is.1) }, params n κs k xs from-k)
params n κs k (a_slice ∷ xs) from-k = (
  record {
    passed = λ x. as_is (slice_ty (ty_ref (named k) imm number)) (slice_val x.ref_ptr (length x.now));
    tells = shr_slice_Tells (named k) (from-k κs).0 f64;
    fits = λ x is. (tt, (tt, (record { fits = is.0.1.0 }, tt)));
  },
  params n κs (suc k) xs (λ κs. (from-k κs).1),
)
params n κs k (a_mut_slice ∷ xs) from-k = (
  record {
    passed = λ x. lent (named k) x.ref_ptr (length x.now);
    tells = mut_slice_Tells (named k) (from-k κs).0 f64;
    fits = λ x is. (tt, (tt, (record { fits = is.0.1.0 }, tt)));
  },
  params n κs (suc k) xs (λ κs. (from-k κs).1),
)

-- of all of them: their machine values, how they are passed on, and the same two facts
abbrev pub spells : (Rs : List RattleType) → Params Rs → Spells Rs
spells [] ps = tt
spells (R ∷ Rs) ps = ((λ x. val_of (ps.0.passed x) ∷ []), spells Rs ps.1)

abbrev pub all_tell : (Rs : List RattleType) (ps : Params Rs) → Tellss Rs (Ises Rs) (spells Rs ps)
all_tell [] ps = tt
all_tell (R ∷ Rs) ps = (ps.0.tells, all_tell Rs ps.1)

abbrev pub passed_on : (Rs : List RattleType) → Params Rs → Denots Rs → List Passed
passed_on [] ps a = []
passed_on (R ∷ Rs) ps a = ps.0.passed a.0 ∷ passed_on Rs ps.1 a.1

abbrev pub vals_of : List Passed → List Val
vals_of [] = []
vals_of (x ∷ xs) = val_of x ∷ vals_of xs

abbrev pub AllFit : List Passed → Type 0
AllFit [] = Unit {0}
AllFit (x ∷ xs) = Fit x × AllFit xs

pub all_fit : (Rs : List RattleType) (ps : Params Rs) (a : Denots Rs) → Are Rs (Ises Rs) a (valss Rs (spells Rs ps) a) → AllFit (passed_on Rs ps a)
all_fit [] ps a are = tt
all_fit (R ∷ Rs) ps a are = (ps.0.fits a.0 are.0, all_fit Rs ps.1 a.1 are.1)

-- the values passed on are the arguments' machine values
pub vals_flat : (Rs : List RattleType) (ps : Params Rs) (a : Denots Rs) → vals_of (passed_on Rs ps a) ≡ flat Rs (valss Rs (spells Rs ps) a)
vals_flat [] ps a = refl
vals_flat (R ∷ Rs) ps a = ap (λ (vs : List Val). val_of (ps.0.passed a.0) ∷ vs) (vals_flat Rs ps.1 a.1)

-- ---- what the thin call has of them at exit
-- just what the call by value said of their last values. It gave everything else away, and the contract asks no more
module _ {n : ℕ} where
  abbrev pub stays_said : (ss : List (Slot n)) (ks : Kepts ss) → Stays ss ks
  stays_said [] ks = tt
  stays_said (s ∷ ss) ks = (record { fit = λ κs x w. Unit {0}; has = λ κs x w vs. left ((s.row κs).exit ks.0) x w }, stays_said ss ks.1)

  pub said_fit : (κs : Lfts n) (ss : List (Slot n)) (ks : Kepts ss) (a : Denots (types_at ss κs)) (ws : Fins κs ss ks a) → fits_of κs ss ks (stays_said ss ks) a ws
  said_fit κs [] ks a ws = tt
  said_fit κs (s ∷ ss) ks a ws = (tt, said_fit κs ss ks.1 a.1 ws.1)

  pub said_had : (κs : Lfts n) (ss : List (Slot n)) (ks : Kepts ss) (a : Denots (types_at ss κs)) (ws : Fins κs ss ks a) (vss : Valss (types_at ss κs)) → lasts_of κs ss ks a ws ≡ has_of κs ss ks (stays_said ss ks) a ws vss
  said_had κs [] ks a ws vss = refl
  said_had κs (s ∷ ss) ks a ws vss = ap (fsep (left ((s.row κs).exit ks.0) a.0 ws.0)) (said_had κs ss ks.1 a.1 ws.1 vss.1)

  pub said_go : {M : Type 1} {𝓤 : Ura M} (𝓛 : Logic 𝓤) (ss : List (Slot n)) (ks : Kepts ss) → AllGo 𝓛 n ss ks (stays_said ss ks)
  said_go 𝓛 [] ks = tt
  said_go 𝓛 (s ∷ ss) ks = ((λ κs x w vs _. 𝓛.laws.⇛_intro _), said_go 𝓛 ss ks.1)

-- ---- the code that passes them on
-- The parameters are the locals from i on. To lend a slice again MIR makes its pointer and then the slice, in two of the locals from j on. These are the statements, with `after` behind them
abbrev pub lending : ℕ → ℕ → List Passed → Body → Body
lending i j [] after = after
lending i j (as_is τ v ∷ xs) after = lending (suc i) j xs after
lending i j (lent ℓ p c ∷ xs) after = seq (assign (place j []) (addr_of (place i (field 0 ∷ deref number ∷ [])))) (seq (assign (place (suc j) []) (aggregate (copy (place j []) ∷ copy (place i (field 1 ∷ [])) ∷ []))) (lending (suc i) (suc (suc j)) xs after))

-- the operands of the call
abbrev pub operands : ℕ → ℕ → List Passed → List Operand
operands i j [] = []
operands i j (as_is τ v ∷ xs) = copy (place i []) ∷ operands (suc i) j xs
operands i j (lent ℓ p c ∷ xs) = copy (place (suc j) []) ∷ operands (suc i) (suc (suc j)) xs

-- the first local after those
abbrev pub lent_to : ℕ → List Passed → ℕ
lent_to j [] = j
lent_to j (as_is τ v ∷ xs) = lent_to j xs
lent_to j (lent ℓ p c ∷ xs) = lent_to (suc (suc j)) xs

-- what the locals hold once the pointer of the slice p is made, and once all slices are lent
abbrev pointed : List (Option Val) → ℕ → ℕ × ℕ → List (Option Val)
pointed os j p = set os j (some (vptr p.0 p.1))

abbrev pub lends : List (Option Val) → ℕ → List Passed → List (Option Val)
lends os j [] = os
lends os j (as_is τ v ∷ xs) = lends os j xs
lends os j (lent ℓ p c ∷ xs) = lends (set (pointed os j p) (suc j) (some (slice_val p c))) (suc (suc j)) xs

-- ---- what that code asks of the locals
-- For each statement and operand, what it takes a local to be (`wanted`), and what the local is (`seen`). For a function's own locals the two lists are equal by computation
abbrev again : Ty
again = ty_ref erased mut number

abbrev pub lent_wanted : List Passed → List Seen
lent_wanted [] = []
lent_wanted (as_is τ v ∷ xs) = lent_wanted xs
lent_wanted (lent ℓ p c ∷ xs) =
    let slice = is (ty_of (lent ℓ p c)) (some (slice_val p c)) in
    slice ∷ is again none ∷ slice ∷ is (slice_ty again) none ∷ lent_wanted xs

abbrev pub read_wanted : List Passed → List Seen
read_wanted [] = []
read_wanted (as_is τ v ∷ xs) = is τ (some v) ∷ read_wanted xs
read_wanted (lent ℓ p c ∷ xs) = is (slice_ty again) (some (slice_val p c)) ∷ read_wanted xs

module _ {M : Type 1} (𝓤 : Ura M) (H : Heap 𝓤) (E : Env 𝓤 H) where
  abbrev pub lent_seen : List (Option Val) → ℕ → ℕ → List Passed → List Seen
  lent_seen os i j [] = []
  lent_seen os i j (as_is τ v ∷ xs) = lent_seen os (suc i) j xs
  lent_seen os i j (lent ℓ p c ∷ xs) =
      let os₁ = pointed os j p in
      see 𝓤 H E os i ∷ see 𝓤 H E os j ∷ see 𝓤 H E os₁ i ∷ see 𝓤 H E os₁ (suc j) ∷ lent_seen (set os₁ (suc j) (some (slice_val p c))) (suc i) (suc (suc j)) xs

  abbrev pub read_seen : List (Option Val) → ℕ → ℕ → List Passed → List Seen
  read_seen os i j [] = []
  read_seen os i j (as_is τ v ∷ xs) = see 𝓤 H E os i ∷ read_seen os (suc i) j xs
  read_seen os i j (lent ℓ p c ∷ xs) = see 𝓤 H E os (suc j) ∷ read_seen os (suc i) (suc (suc j)) xs

-- the k-th of a list of them
abbrev pub nth_seen : ℕ → List Seen → Seen
nth_seen k l = get_or l k (false, (number, none))

-- ---- that code, walked
-- Each step is by the list's next entries
module _ {M : Type 1} {𝓤 : Ura M} {𝓛 : Logic 𝓤} {K : Type 0} {Γ : List (Item 𝓤)} {E : Env 𝓤 𝓛.H} where
  open 𝓛 use {H}

  pub lent_all : K → {C : Calls 𝓤 H} {Λ : Loops 𝓤 H} {q : Post 𝓤 H} {after : Body} (os : List (Option Val)) (i j : ℕ) (xs : List Passed) → lent_seen 𝓤 H E os i j xs ≡ lent_wanted xs → AllFit xs
      → Step K 𝓛 (‵ (Locals E (lends os j xs)) ∷ Γ) (runs C Λ E after q) (‵ (Locals E os) ∷ Γ) (runs C Λ E (lending i j xs after) q)
  lent_all t os i j [] e ok = step (λ s. s)
  lent_all t os i j (as_is τ v ∷ xs) e ok = lent_all t os (suc i) j xs e ok.1
  lent_all t os i j (lent ℓ p c ∷ xs) e ok =
      let old : Here 𝓤 H E os i (ty_of (lent ℓ p c)) (some (slice_val p c)) = record { seen = ap (nth_seen 0) e } in
      let room : Here 𝓤 H E os j again none = record { seen = ap (nth_seen 1) e } in
      let still : Here 𝓤 H E (pointed os j p) i (ty_of (lent ℓ p c)) (some (slice_val p c)) = record { seen = ap (nth_seen 2) e } in
      let more : Here 𝓤 H E (pointed os j p) (suc j) (slice_ty again) none = record { seen = ap (nth_seen 3) e } in
      step (λ s.
      assigns t (addr t (within_local t old (fld t refl (hop t (look_in t 0 (sub t 0 refl (held t i old))) (stop t))))) (from t (stop t)) (made t j room (tt, tt)) $
      assigns t (agg t (and_then t (var t 0 refl (here_set room _)) (and_then t (load t (within_local t still (fld t refl (stop t))) (look_in t 0 (sub t 1 refl (held t i still)))) (no_more t)))) (from t (stop t)) (made t (suc j) more (tt, ok.0.1)) $
      lent_all t _ (suc i) (suc (suc j)) xs (ap (drop 4) e) ok.1 $ s)

  -- the operands, where the locals are the second entry
  pub read_all : K → {P : Item 𝓤} (os : List (Option Val)) (i j : ℕ) (xs : List Passed) → read_seen 𝓤 H E os i j xs ≡ read_wanted xs → Opds K 𝓛 (P ∷ ‵ (Locals E os) ∷ Γ) E (operands i j xs) (vals_of xs)
  read_all t os i j [] e = no_more t
  read_all t os i j (as_is τ v ∷ xs) e = and_then t (var t {os = os} {τ = τ} 1 refl (record { seen = ap (nth_seen 0) e })) (read_all t os (suc i) j xs (ap (drop 1) e))
  read_all t os i j (lent ℓ p c ∷ xs) e = and_then t (var t {os = os} {τ = slice_ty again} 1 refl (record { seen = ap (nth_seen 0) e })) (read_all t os (suc i) (suc (suc j)) xs (ap (drop 1) e))

  -- operands at values that are known by an equation
  pub same_values : K → {ops : List Operand} {v : Val} {vs us : List Val} → vs ≡ us → Opds K 𝓛 Γ E ops (v ∷ vs) → Opds K 𝓛 Γ E ops (v ∷ us)
  same_values t {ops} {v} e os = subst (λ (ws : List Val). Opds K 𝓛 Γ E ops (v ∷ ws)) e os
