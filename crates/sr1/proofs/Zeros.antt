-- A q of zero: no update can be made by it, whichever test lets it through, for 1/q is infinite and no entry of the Hessian would be finite. Edition 1 lets it through. Assumes nothing.
use mathlib.Core.Path.{◌≡◌, refl, sym, ap, ◌∙◌}
use mathlib.Core.Bool.{Bool, true, false, cond, ◌&&◌, ◌||◌, beq, true≢false, false≢true}
use mathlib.Core.List.{List}
use Prim.Native.Nat.{ℕ, zero, suc, ◌*◌, ◌^◌, ◌<◌, ◌≤◌}
use native.Mathlib.Nat.{mul-pos, zero-mul, mul-zero, zero-lt-suc, lt_irrefl, le_of_eq}
use lib.IntN.{ℤ}
use lib.Dec.{T, eqb}
use lib.Pow.{pow_pos}
use lib.Ieee.{Float, nan, inf, fin, binary64, up, down, unlike, round, mul, div, le, eq, is_nan, of_bits}
use lib.Ieee.Bits.{is_true}
use lib.Ieee.Fits.{up_pos, down_pos}
use lib.Ieee.Exact.{HasValue, round_exact}
use borrow.Author.Tests.{ne_eqb}
use Rattle.std.specs.Prelude.{Ok}
use Rattle.float.specs.Numbers.{◌⊕◌, ◌⊗◌, ◌⊘◌, finite, magnitude}
use Rattle.float.specs.Constants.{nought, one}
use Rattle.float.proofs.Operands.{add_finite}
use Rattle.float.proofs.Order.{AtMost, AtMost→le}
use Rattle.vectors.specs.Vector.{at, row, all_finite}
use Rattle.vectors.specs.Refusal.{refused, given, then, judged}
use Rattle.vectors.specs.declared.refusal.Refusal.TheVariants.{Range}
use Rattle.kernels.proofs.Kernels.{unless_passed}
use Rattle.offer.specs.State.{Promise, promised}
use Rattle.sr1.specs.Session.{Session, residual, ported_rule, gained_at, gained_row, gained, updated_by, updated, judge, judgement_checks, judgement}
use Rattle.sr1.specs.Skips.{q, tested, radius_after}
use Rattle.sr1.proofs.Ends.{answered, answer_lent}
use Rattle.sr1.proofs.Hessians.{and_false, by_first, row_bad, rows_bad}

-- ---- zeros

not_zero : (s : Bool) (m : ℕ) (e : ℤ) → eq (fin s (suc m) e) nought ≡ true → ⊥
unfolding eq of_bits
not_zero s m e t =
    let above : 0 < suc m * up e * 1 = mul-pos (mul-pos (zero-lt-suc m) (up_pos e)) (zero-lt-suc 0) in
    let other : eqb (suc m * up e * 1) (0 * down e) ≡ false = ne_eqb (suc m * up e * 1) (0 * down e) (λ h. lt_irrefl 0 (rw (h ∙ zero-mul (down e)) at above)) in
    false≢true (sym (ap (λ b. b && (beq s false || eqb (suc m * up e * 1) 0)) other) ∙ t)

-- what holds of +0 and −0 holds of whatever equals zero
zero_elim : (P : Float → Type 0) → ((s : Bool) (e : ℤ) → P (fin s zero e)) → (x : Float) → eq x nought ≡ true → P x
unfolding eq of_bits
zero_elim P h nan t = absurd (false≢true t)
zero_elim P h (inf s) t = absurd (false≢true t)
zero_elim P h (fin s zero e) t = h s e
zero_elim P h (fin s (suc m) e) t = absurd (not_zero s m e t)

-- 1/q is infinite
one_over : (s : Bool) (e : ℤ) → finite (one ⊘ fin s zero e) ≡ false
unfolding div of_bits finite
one_over s e = refl

-- and nothing that is made by it is finite
either : (b t : Bool) → finite (cond b nan (inf t)) ≡ false
unfolding finite
either true t = refl
either false t = refl

by_infinite : (x y : Float) → finite y ≡ false → finite (x ⊗ y) ≡ false
unfolding mul finite
by_infinite nan y e = refl
by_infinite (inf s) nan e = refl
by_infinite (inf s) (inf t) e = refl
by_infinite (inf s) (fin t n d) e = absurd (true≢false e)
by_infinite (fin s m d) nan e = refl
by_infinite (fin s m d) (inf t) e = either (eqb m 0) (unlike s t)
by_infinite (fin s m d) (fin t n c) e = absurd (true≢false e)

plus_infinite : (x y : Float) → finite y ≡ false → finite (x ⊕ y) ≡ false
plus_infinite x y e = go (finite (x ⊕ y)) refl
  where
    go : (b : Bool) → finite (x ⊕ y) ≡ b → b ≡ false
    go true h = absurd (rw e at (add_finite x y (rw h tt)).1)
    go false h = refl

-- ---- an update by it

no_row : (n : ℕ) (hessian z : List Float) (share : Float) → 1 ≤ n → finite share ≡ false → all_finite (gained n hessian z share) ≡ false
unfolding gained gained_row
no_row n hessian z share h e =
    rows_bad n (gained_row n hessian z share) 0 h (row_bad n (gained_at n hessian z share 0) 0 h (plus_infinite (at (row n hessian 0) 0) (at z 0 ⊗ at z 0 ⊗ share) (by_infinite (at z 0 ⊗ at z 0) share e)))

-- ---- edition 1 lets it through: 0 is at most 0

-- a finite number times zero is at most zero
below_zero : (y : Float) (s : Bool) (c : ℕ) (e : ℤ) → 0 < c → HasValue y s 0 c → T (le y (fin false zero e))
unfolding is_nan
below_zero nan s c e C v = absurd v
below_zero (inf t) s c e C v = absurd v
below_zero (fin t m d) s c e C v = AtMost→le (fin t m d) (fin false zero e) tt tt (at_most t (nothing (m * up d) v.1))
  where
    nothing : (a : ℕ) → a * c ≡ 0 * down d → a ≡ 0
    nothing zero h = refl
    nothing (suc a) h = absurd (lt_irrefl 0 (rw (h ∙ zero-mul (down d)) at (mul-pos (zero-lt-suc a) C)))

    at_most : (t : Bool) → m * up d ≡ 0 → AtMost t (m * up d) (down d) false (0 * up e) (down e)
    at_most true h = tt
    at_most false h = le_of_eq (ap (λ (a : ℕ). a * down e) h ∙ zero-mul (down e) ∙ sym (ap (λ (a : ℕ). a * down d) (zero-mul (up e)) ∙ zero-mul (down d)))

times_zero : (x : Float) (e : ℤ) → finite x ≡ true → T (le (x ⊗ fin false zero e) (fin false zero e))
unfolding mul finite
times_zero nan e h = absurd (false≢true h)
times_zero (inf s) e h = absurd (false≢true h)
times_zero (fin s m d) e h =
    let c = down d * down e in
    let num = m * up d * (0 * up e) in
    let nought-is : num ≡ 0 = ap (λ (a : ℕ). m * up d * a) (zero-mul (up e)) ∙ mul-zero (m * up d) in
    let C : 0 < c = mul-pos (down_pos d) (down_pos e) in
    below_zero (round binary64 (unlike s false) num c) (unlike s false) c e C
    (rw nought-is (round_exact binary64 (unlike s false) 0 c 0 0 C (pow_pos 53) (pow_pos 2098) (zero-mul (2 ^ 1074) ∙ sym (zero-mul c))))

lets_through : (factor norm q : Float) → finite (factor ⊗ norm) ≡ true → eq q nought ≡ true → ported_rule factor norm q ≡ true
unfolding ported_rule magnitude
lets_through factor norm q h = zero_elim (λ x. ported_rule factor norm x ≡ true) (λ s e. is_true _ (times_zero (factor ⊗ norm) e h)) q

-- ---- what an answer comes to

module _ (s : Session) (n : ℕ) (F : Float) (new_gradient point step trial gradient hessian scratch : List Float) (p : Promise) (zero-q : eq (q n new_gradient gradient hessian step) nought ≡ true) where
  next_bad : 1 ≤ n → tested s n new_gradient gradient hessian step p ≡ true → all_finite (updated n s.settings p.norm new_gradient gradient hessian step) ≡ false
  unfolding updated updated_by
  next_bad h t = rw t (no_row n hessian (residual n new_gradient gradient hessian step) (one ⊘ q n new_gradient gradient hessian step) h (zero_elim (λ x. finite (one ⊘ x) ≡ false) one_over _ zero-q))

  module _ (is : promised s.state.phase ≡ given p) (passed : judged (judgement_checks s n new_gradient point step trial gradient hessian scratch) ≡ Ok tt) (read : answered s n F new_gradient point step trial gradient hessian scratch ≡ true) where
    -- Whichever test lets a q of zero through, the answer is refused by 8.
    pub zero_refused : tested s n new_gradient gradient hessian step p ≡ true → judgement s n F new_gradient point step trial gradient hessian scratch ≡ refused Range
    unfolding judgement judge
    zero_refused t =
        unless_passed (judgement_checks s n new_gradient point step trial gradient hessian scratch) _ passed
        ∙ ap (then (judge s n F new_gradient point step trial gradient hessian)) is
        ∙ rw (read, next_bad (answer_lent s n F new_gradient point step trial gradient hessian scratch passed).square.low t, and_false (finite (radius_after s F p)))

    -- Edition 1 does.
    pub first_refused : s.settings.edition ≡ 1 → finite (s.settings.factor ⊗ p.norm) ≡ true → judgement s n F new_gradient point step trial gradient hessian scratch ≡ refused Range
    first_refused e h = zero_refused (by_first s.settings p.norm _ _ e ∙ lets_through s.settings.factor p.norm (q n new_gradient gradient hessian step) h zero-q)
