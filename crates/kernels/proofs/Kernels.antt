-- What kernels share, over the values: their checks, the answers they may give, and how they end. Assumes nothing.
use mathlib.Core.Path.{◌≡◌, refl, sym, ◌∙◌, ap, subst}
use mathlib.Core.Bool.{Bool, true, false, cond, not, ◌&&◌}
use mathlib.Core.List.{List, [], ◌∷◌, ◌++◌, append-nil}
use Prim.Native.Nat.{ℕ, zero, suc, ◌+◌, ◌*◌, ◌-◌, ◌≤◌}
use native.Mathlib.Omega.{arith}
use lib.Dec.{eqb}
use lib.ListN.{length, take, drop, length-drop, drop_of_length-le}
use lib.Seq.{length-take-le, take_at, drop-append-add, take_all}
use lib.Ieee.{Float}
use borrow.Rule.Slice.PartMut.{mid_of, put_mid}
use borrow.Author.Tests.{eqb-true, eq-eqb}
use Rattle.std.specs.Prelude.{Result, Ok, Err}
use Rattle.std.specs.Result.{OnOk, IsErrAnd, is_err}
use Rattle.std.proofs.lemmas.Result.{err_from_is_err_and}
use Rattle.float.specs.Constants.{nought}
use Rattle.float.specs.Numbers.{finite}
use Rattle.vectors.specs.Vector.{tab, zeros, all_finite, norm}
use Rattle.vectors.specs.Slots.{slot}
use Rattle.vectors.specs.Refusal.{Answer, refused, given, Check, ◌if◌, unless, judged, checked, then, all_hold, untouched_by, size, sized, room, Square, Roomy}
use Rattle.kernels.specs.Kernel.{Kernel, Made, made, handed_out, sound_step, positive, Proper, stepped, Laid, Where_made, Reached, handed_over, Took, Lent, called}
use Rattle.vectors.specs.declared.refusal.Refusal.{Refusal}
use Rattle.vectors.specs.declared.refusal.Refusal.TheVariants.{Size, Setting, Entry, Range}
use Rattle.kernels.specs.declared.kernel.Stepped.{Stepped}
use Rattle.vectors.proofs.Norms.{norm_tells}
use Rattle.vectors.proofs.Sizes.{was_right, each_holds, square_by, size_test}
use Rattle.kernels.proofs.Rows.{low_room}

-- ---- a list of checks, and the verdict on it

passed_one : {A : Type 0} (b : Bool) (r : Refusal) (v : Result (Unit {0}) Refusal) (o a : Answer A) → (v ≡ Ok tt → o ≡ a) → cond b (Err r) v ≡ Ok tt → cond b (refused r) o ≡ a
passed_one true r v o a f e = cc
passed_one false r v o a f e = f e

pub unless_passed : {A : Type 0} (cs : List Check) (a : Answer A) → judged cs ≡ Ok tt → unless cs a ≡ a
unless_passed [] a e = refl
unless_passed (c ∷ cs) a e = passed_one c.applies c.refusal (judged cs) (unless cs a) a (unless_passed cs a) e

failed_one : {A : Type 0} (b : Bool) (r s : Refusal) (v : Result (Unit {0}) Refusal) (o : Answer A) → (v ≡ Err s → o ≡ refused s) → cond b (Err r) v ≡ Err s → cond b (refused r) o ≡ refused s
failed_one true r s v o f e = cc
failed_one false r s v o f e = f e

pub unless_failed : {A : Type 0} (cs : List Check) (a : Answer A) (r : Refusal) → judged cs ≡ Err r → unless cs a ≡ refused r
unless_failed [] a r e = cc
unless_failed (c ∷ cs) a r e = failed_one c.applies c.refusal r (judged cs) (unless cs a) (unless_failed cs a r) e

-- checks whose refusals leave the scratch as it was
abbrev pub Early : List Check → Type 0
Early [] = Unit {0}
Early (c ∷ cs) = (untouched_by c.refusal ≡ true) × Early cs

early_one : (b : Bool) (r s : Refusal) (v : Result (Unit {0}) Refusal) → untouched_by r ≡ true → (v ≡ Err s → untouched_by s ≡ true) → cond b (Err r) v ≡ Err s → untouched_by s ≡ true
early_one true r s v h f e = let same : s ≡ r = cc in rw same h
early_one false r s v h f e = f e

pub early : (cs : List Check) (r : Refusal) → Early cs → judged cs ≡ Err r → untouched_by r ≡ true
early [] r h e = absurd (let z : ◌≡◌ {A = ℕ} 0 1 = cc in omega arith)
early (c ∷ cs) r h e = early_one c.applies c.refusal r (judged cs) h.0 (early cs r h.1) e

-- the first of the checks has passed where all have
pub first_passed : (t : Bool) (r : Refusal) (cs : List Check) → judged ((r if not t) ∷ cs) ≡ Ok tt → t ≡ true
first_passed true r cs e = refl
first_passed false r cs e = cc

-- a check that was refused, and what `?` gave back of it
pub was_wrong : (r e : Refusal) (right : Bool) → Err e ≡ checked r right → (right ≡ false) × (e ≡ r)
was_wrong r e true h = cc
was_wrong r e false h = (refl, cc)

pub by_check : {A : Type 0} (r e : Refusal) (right : Bool) (result : Result A Refusal) → IsErrAnd result (λ x. x ≡ e) → Err e ≡ checked r right → (result ≡ Err r) × (right ≡ false)
by_check r e right result i h =
    let p = err_from_is_err_and result i in
    let x = was_wrong r e right h in
    (p.1 ∙ ap Err (p.2 ∙ x.1), x.0)

lent_true : (n h g step scratch : ℕ) → all_hold (size n ∷ eqb h (n * n) ∷ eqb g n ∷ eqb step n ∷ eqb scratch (room n) ∷ []) ≡ true → Lent n h g step scratch
lent_true n h g step scratch e =
    let t = each_holds (size n ∷ eqb h (n * n) ∷ eqb g n ∷ eqb step n ∷ eqb scratch (room n) ∷ []) e in
    let square = square_by n h t.0 t.1.0 in
    record {
      square = square;
      gradient = eqb-true g n t.1.1.0;
      step = eqb-true step n t.1.1.1.0;
      roomy = record { high = square.high; long = eqb-true scratch (room n) t.1.1.1.1.0 };
    }

pub lent_right : (n h g step scratch : ℕ) (r : Result (Unit {0}) Refusal) → r ≡ checked Size (all_hold (size n ∷ eqb h (n * n) ∷ eqb g n ∷ eqb step n ∷ eqb scratch (room n) ∷ [])) → OnOk r (Lent n h g step scratch)
lent_right n h g step scratch (Ok u) e = lent_true n h g step scratch (was_right Size (all_hold (size n ∷ eqb h (n * n) ∷ eqb g n ∷ eqb step n ∷ eqb scratch (room n) ∷ [])) e)
lent_right n h g step scratch (Err r) e = tt

-- the same from what a subproblem says of itself
pub sized_by : {n h g s scratch : ℕ} → Square n h → g ≡ n → (s ≡ n) × Roomy n scratch → Lent n h g s scratch
sized_by a b c = record { square = a; gradient = b; step = c.0; roomy = c.1 }

-- what `hand_over` asks of it
pub over_ready : {n h g s scratch : ℕ} (scratch' : ℕ) → Lent n h g s scratch → scratch' ≡ scratch → (s ≡ n) × (n ≤ scratch')
over_ready {n} scratch' l e = (l.step, omega (arith, low_room l.roomy 0 (omega arith)))

-- ---- the refusals of a kernel that is called directly

module _ (settings : Bool) (kernel : Kernel) (n : ℕ) (radius : Float) (g H step w : List Float) where
  abbrev sizes : Bool
  sizes = all_hold (size n ∷ sized (n * n) H ∷ sized n g ∷ sized n step ∷ sized (room n) w ∷ [])

  abbrev Ends : Refusal → Type 0
  Ends r = Took (called settings kernel n radius g H step w) (Err r) step step w w

  pub took_size : sizes ≡ false → Ends Size
  unfolding called
  took_size e = rw e (record { says = refl; leaves = refl; clears = refl })

  module _ (l : Lent n (length H) (length g) (length step) (length w)) where
    sizes_hold : sizes ≡ true
    sizes_hold = simp (size_test l.square, eq-eqb (length H) (n * n) l.square.long, eq-eqb (length g) n l.gradient, eq-eqb (length step) n l.step, eq-eqb (length w) (room n) l.roomy.long)

    pub took_setting : (positive radius && settings) ≡ false → Ends Setting
    unfolding called
    took_setting e = rw (sizes_hold, e) (record { says = refl; leaves = refl; clears = refl })

    pub took_entry : (positive radius && settings) ≡ true → (all_finite g && all_finite H) ≡ false → Ends Entry
    unfolding called
    took_entry e f = rw (sizes_hold, e, f) (record { says = refl; leaves = refl; clears = refl })

    pub goes_on : (positive radius && settings) ≡ true → (all_finite g && all_finite H) ≡ true → called settings kernel n radius g H step w ≡ kernel n radius g H
    unfolding called
    goes_on e f = rw (sizes_hold, e, f)

-- ---- the answers that a kernel may give

-- a refusal that clears the scratch
abbrev pub Late : {A : Type 0} → Answer A → Type 0
Late (refused r) = untouched_by r ≡ false
Late (given a) = Unit {0}

pub then_late : {A B : Type 0} (f : A → Answer B) (o : Answer A) → Late o → ((a : A) → Late (f a)) → Late (then f o)
then_late f (refused r) l h = l
then_late f (given a) l h = h a

pub then_proper : {A : Type 0} (n : ℕ) (f : A → Answer Made) (o : Answer A) → Late o → ((a : A) → Proper n (f a)) → Proper n (then f o)
then_proper n f (refused r) l h = l
then_proper n f (given a) l h = h a

handed_one : (n : ℕ) (b : Bool) (m : Made) → length m.step ≡ n → Proper n (cond b (refused Range) (given m))
handed_one n true m e = refl
handed_one n false m e = e

pub handed_proper : (n : ℕ) (m : Made) → length m.step ≡ n → Proper n (handed_out m)
unfolding handed_out
handed_proper n m e = handed_one n (not (sound_step m.step)) m e

pub then_handed : (n : ℕ) (o : Answer Made) → Proper n o → Proper n (then handed_out o)
then_handed n (refused r) p = p
then_handed n (given m) p = handed_proper n m p

-- ---- how a kernel ends for a session

-- only the scratch's length counts
where_same : (a : Answer Made) (w₁ w w' : List Float) → length w₁ ≡ length w → Where_made a w₁ w' → Where_made a w w'
where_same (refused r) w₁ w w' l h = tt
where_same (given m) w₁ w w' l h = h ∙ ap (λ (k : ℕ). m.step ++ zeros (k - length m.step)) l

pub reached_same : (a b : Answer Made) (r : Result Stepped Refusal) (w₁ w w' : List Float) → a ≡ b → length w₁ ≡ length w → Reached a r w₁ w' → Reached b r w w'
reached_same a b r w₁ w w' e l h =
    record { says = h.says ∙ ap stepped e; lays = subst (λ (x : Answer Made). Where_made x w w') e (where_same a w₁ w w' l h.lays) }

-- a refusal says nothing of the scratch
pub reached_none : (a : Answer Made) (r : Refusal) (w w' : List Float) → refused r ≡ a → Reached a (Err r) w w'
reached_none a r w w' e = subst (λ (x : Answer Made). Reached x (Err r) w w') e (record { says = refl; lays = tt })

-- which is then cleared
pub laid_refused : (n : ℕ) (a : Answer Made) (r : Result Stepped Refusal) (w w₁ w₂ : List Float) → Proper n a → length w₁ ≡ length w → Reached a r w w₁ → is_err r ≡ true → w₂ ≡ zeros (length w₁) → Laid a r w w₂
laid_refused n (refused x) r w w₁ w₂ p l h t z = record { says = h.says; lays = z ∙ ap zeros l ∙ rw p }
laid_refused n (given m) r w w₁ w₂ p l h t z = absurd (let e : false ≡ true = sym (ap is_err h.says) ∙ t in cc)

-- `settle_by`: the norm of the step alone tells whether it is sound
module _ (n passes : ℕ) (w : List Float) (long : Float) (is : long ≡ norm (slot w n 0)) where
  known : (b : Bool) → finite long ≡ b → sound_step (slot w n 0) ≡ b
  unfolding sound_step
  known b t = sym (norm_tells (slot w n 0)) ∙ sym (ap finite is) ∙ t

  pub unsettled : finite long ≡ false → Reached (handed_out (made passes (slot w n 0))) (Err Range) w w
  unfolding handed_out
  unsettled t = rw (known false t) (record { says = refl; lays = tt })

  pub settled : (ys : List Float) → finite long ≡ true → n ≤ length w → ys ≡ zeros (length (mid_of n (length w - n) w))
      → Reached (handed_out (made passes (slot w n 0))) (Ok (record { passes = passes; norm = long })) w (put_mid n (length w - n) w ys)
  unfolding handed_out slot
  settled ys t h z =
      let none : 0 * n ≡ 0 = omega arith in
      let front : slot w n 0 ≡ take n w = rw none in
      let size-0 : length (take n w) ≡ n = length-take-le n w h in
      let size : length (drop n w) ≡ length w - n = length-drop n w in
      let behind : drop (length w - n) (drop n w) ≡ [] = drop_of_length-le (drop n w) {i = length w - n} (omega (arith, size)) in
      let all : take (length w - n) (drop n w) ≡ drop n w = take_all (length w - n) (drop n w) (omega (arith, size)) in
      let zeroed : ys ≡ zeros (length w - length (take n w)) = z ∙ rw (all, size, size-0) in
      rw (known true t) (record { says = ap (λ (x : Float). Ok (record { passes = passes; norm = x })) is; lays = rw (front, behind, zeroed, append-nil) })

-- ---- how it ends for a direct caller

pub slot_laid : (v u : List Float) (n : ℕ) → length v ≡ n → slot (v ++ u) n 0 ≡ v
unfolding slot
slot_laid v u n e = let none : 0 * n ≡ 0 = omega arith in rw none (take_at v u n e)

zeros_join : (a b : ℕ) → zeros a ++ zeros b ≡ zeros (a + b)
unfolding zeros tab
zeros_join zero b = let e : 0 + b ≡ b = omega arith in rw e
zeros_join (suc a) b = let e : suc a + b ≡ suc (a + b) = omega arith in rw e (ap (λ (u : List Float). nought ∷ u) (zeros_join a b))

drop_zeros : (k size : ℕ) → drop k (zeros size) ≡ zeros (size - k)
unfolding zeros tab
drop_zeros zero size = let e : size - 0 ≡ size = omega arith in rw e
drop_zeros (suc k) zero = let e : 0 - suc k ≡ 0 = omega arith in rw e
drop_zeros (suc k) (suc size) = let e : suc size - suc k ≡ size - k = omega arith in rw e (drop_zeros k size)

-- the first k numbers cleared, the step's place among them, all is
pub cleared_laid : (v : List Float) (k size : ℕ) → length v ≤ k → k ≤ size → zeros k ++ drop k (v ++ zeros (size - length v)) ≡ zeros size
cleared_laid v k size a b =
    let past : length v + (k - length v) ≡ k = omega arith in
    let behind : drop k (v ++ zeros (size - length v)) ≡ zeros (size - length v - (k - length v)) =
    subst (λ (x : ℕ). drop x (v ++ zeros (size - length v)) ≡ zeros (size - length v - (k - length v))) past
    (drop-append-add v (zeros (size - length v)) (k - length v) ∙ drop_zeros (k - length v) (size - length v)) in
    let all : k + (size - length v - (k - length v)) ≡ size = omega arith in
    rw (behind, zeros_join, all)

-- from what a kernel laid out in w₁ and `hand_over` made of it
module _ (n : ℕ) (found r : Result Stepped Refusal) (step step' w w₁ w' : List Float) (l : length w₁ ≡ length w)
    (b : n ≤ length w) (h : (r ≡ found) × (step' ≡ handed_over found (slot w₁ n 0) step) × (w' ≡ handed_over found (zeros n ++ drop n w₁) w₁)) where
  pub took : (a : Answer Made) → Proper n a → Laid a found w w₁ → Took a r step step' w w'
  took (refused x) p laid = record {
    says = h.0 ∙ laid.says;
    leaves = h.1 ∙ ap (λ (s : Result Stepped Refusal). handed_over s (slot w₁ n 0) step) laid.says;
    clears = h.2 ∙ ap (λ (s : Result Stepped Refusal). handed_over s (zeros n ++ drop n w₁) w₁) laid.says ∙ laid.lays;
  }
  took (given m) p laid = record {
    says = h.0 ∙ laid.says;
    leaves = h.1 ∙ ap (λ (s : Result Stepped Refusal). handed_over s (slot w₁ n 0) step) laid.says ∙ ap (λ (u : List Float). slot u n 0) laid.lays ∙ slot_laid m.step _ n p;
    clears = h.2 ∙ ap (λ (s : Result Stepped Refusal). handed_over s (zeros n ++ drop n w₁) w₁) laid.says ∙ ap (λ (u : List Float). zeros n ++ drop n u) laid.lays ∙ cleared_laid m.step n (length w) (omega arith) b;
  }
