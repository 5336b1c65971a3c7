-- The order of magnitudes is that of their bit patterns, as whole numbers, and a NaN's is above all. Assumes nothing.
use mathlib.Core.Path.{◌≡◌, refl, sym, ap, ◌∙◌, subst}
use mathlib.Core.Bool.{Bool, true, false, not, ◌||◌, cond, true≢false}
use mathlib.Core.Logic.{◌⊎◌, inl, inr, dite}
use Prim.Native.Nat.{ℕ, zero, suc, ◌+◌, ◌-◌, ◌*◌, ◌/◌, ◌%◌, ◌^◌, ◌≤◌, ◌<◌}
use native.Mathlib.Nat.{le_trans, le_of_eq, le_refl, le_of_lt, lt_of_le_of_lt, lt_of_lt_of_le, le_antisymm, not-le_of_lt, eq-or-lt_of_le, mod-eq_of_lt, zero-add, zero-mul, div-one, le-div_iff_mul-le, mul_right_comm, mul-le-mul_right}
use native.Mathlib.Decide.{dec_lt}
use native.Mathlib.Omega.{arith}
use lib.IntN.{ℤ}
use lib.Dec.{T, lit≤}
use lib.Pow.{pow-add, pow_pos, pow_mono, shr_mono, shr_le}
use lib.Ieee.{Float, nan, inf, fin, binary64, up, down, below, level, lt, le, eq, is_nan, fits, of_bits, to_bits, size}
use borrow.Author.Tests.{le-ltb, ne_eqb}
use lib.Ieee.Fits.{down_pos, kept-lt}
use lib.Ieee.Digits.{size-lt, size-le, size_reaches}
use lib.Ieee.Nearest.{div_mono}
use Rattle.float.specs.Numbers.{magnitude, larger}
use Rattle.float.specs.Constants.{nought}
use Rattle.float.proofs.Nan.{is_nan_lem}
use Rattle.float.proofs.Order.{sign, lt→le, le_of_not_lt, le→AtMost}
use Rattle.float.proofs.Values.{held, in_units, units_bounded}

-- ---- the bit pattern of n units

abbrev pattern : ℕ → ℕ
pattern n = (size n - 53) * 2 ^ 52 + n / 2 ^ (size n - 53)

pattern_low : (n : ℕ) → size n ≤ 52 → (pattern n ≡ n) × (n < 2 ^ 52)
pattern_low n h = (
  ap (λ (k : ℕ). k * 2 ^ 52 + n / 2 ^ k) (none (size n) h) ∙ plain n,
  lt_of_lt_of_le (size-lt n) (pow_mono h),
)
  where
    none : (s : ℕ) → s ≤ 52 → s - 53 ≡ 0
    none s h = omega arith

    plain : (n : ℕ) → 0 * 2 ^ 52 + n / 2 ^ 0 ≡ n
    plain n = zero-add (n / 1) ∙ div-one n

digits_high : (n : ℕ) → 53 ≤ size n → (2 ^ 52 ≤ n / 2 ^ (size n - 53)) × (n / 2 ^ (size n - 53) < 2 ^ 53)
digits_high n h = (
  (le-div_iff_mul-le (pow_pos (size n - 53))).1 (le_trans (le_of_eq (sym (pow-add 2 52 (size n - 53)))) (size_reaches n (52 + (size n - 53)) (less (size n) h))),
  kept-lt 53 n,
)
  where
    less : (s : ℕ) → 53 ≤ s → 52 + (s - 53) < s
    less s h = omega arith

either : (s : ℕ) → (s ≤ 52) ⊎ (53 ≤ s)
either s = dite (dec_lt s 53) (λ h. inl (omega arith)) (λ h. inr (omega (arith, h)))

pattern_bounded : (n : ℕ) → size n ≤ 2098 → pattern n < 2047 * 2 ^ 52
pattern_bounded n h = at (size n) (n / 2 ^ (size n - 53)) h (kept-lt 53 n)
  where
    at : (s y : ℕ) → s ≤ 2098 → y < 2 ^ 53 → (s - 53) * 2 ^ 52 + y < 2047 * 2 ^ 52
    at s y h l = omega arith

-- more units, a larger pattern: the order of magnitudes is that of their patterns
pattern_mono : (n m : ℕ) → n ≤ m → pattern n ≤ pattern m
pattern_mono n m h =
    let s : size n ≤ size m = size-le n (size m) (lt_of_le_of_lt h (size-lt m)) in
    elim (either (size m)) [
      | inl l ↦ le_trans (le_of_eq (pattern_low n (le_trans s l)).0) (le_trans h (le_of_eq (sym (pattern_low m l).0)))
      | inr g ↦ go s g (eq-or-lt_of_le s)
    ]
  where
    same : (k : ℕ) → k * 2 ^ 52 + n / 2 ^ k ≤ k * 2 ^ 52 + m / 2 ^ k
    same k = more (k * 2 ^ 52) (shr_mono k h)
      where
        more : (a : ℕ) {x y : ℕ} → x ≤ y → a + x ≤ a + y
        more a h = omega arith

    apart : (s t x y : ℕ) → s < t → 53 ≤ t → x < 2 ^ 53 → 2 ^ 52 ≤ y → (s ≤ 52) ⊎ (53 ≤ s) → (s ≤ 52 → x < 2 ^ 52) → (s - 53) * 2 ^ 52 + x ≤ (t - 53) * 2 ^ 52 + y
    apart s t x y a b c d (inl l) f = let g = f l in omega arith
    apart s t x y a b c d (inr g) f = omega arith

    go : size n ≤ size m → 53 ≤ size m → (size n ≡ size m) ⊎ (size n < size m) → pattern n ≤ pattern m
    go s g (inl e) = subst (λ (z : ℕ). pattern n ≤ (z - 53) * 2 ^ 52 + m / 2 ^ (z - 53)) e (same (size n - 53))
    go s g (inr l) =
        apart (size n) (size m) (n / 2 ^ (size n - 53)) (m / 2 ^ (size m - 53)) l g (kept-lt 53 n) (digits_high m g).0
        (either (size n))
        (λ a. lt_of_le_of_lt (shr_le n (size n - 53)) (pattern_low n a).1)

-- ---- the units of a number

abbrev unit_count : ℕ → ℤ → ℕ
unit_count m e = m * up e * 2 ^ 1074 / down e

size_bounded : (s : Bool) (m : ℕ) (e : ℤ) → T (fits binary64 (fin s m e)) → size (unit_count m e) ≤ 2098
size_bounded s m e f =
    let h = held s m e f in
    size-le (unit_count m e) 2098 (lt_of_le_of_lt (le_of_eq (in_units m e h.fine).whole) (units_bounded m e h))

bits_are : (m : ℕ) (e : ℤ) → to_bits binary64 (fin false m e) ≡ pattern (unit_count m e)
unfolding to_bits
bits_are m e = let n = unit_count m e in ap (λ (z : ℕ). z + n / 2 ^ (size n - 53)) (zero-add ((size n - 53) * 2 ^ 52))

-- a magnitude that is no larger has no more units
fewer_units : (m : ℕ) (e : ℤ) (n : ℕ) (g : ℤ) → T (le (fin false m e) (fin false n g)) → unit_count m e ≤ unit_count n g
fewer_units m e n g h =
    div_mono (m * up e * 2 ^ 1074) (down e) (n * up g * 2 ^ 1074) (down g) (down_pos e) (down_pos g)
    (le_trans (le_of_eq (mul_right_comm (m * up e) (2 ^ 1074) (down g))) (le_trans (mul-le-mul_right (2 ^ 1074) (le→AtMost (fin false m e) (fin false n g) h)) (le_of_eq (mul_right_comm (n * up g) (down e) (2 ^ 1074)))))

number_bits : (m : ℕ) (e : ℤ) → T (fits binary64 (fin false m e)) → to_bits binary64 (fin false m e) < 2047 * 2 ^ 52
number_bits m e f = lt_of_le_of_lt (le_of_eq (bits_are m e)) (pattern_bounded (unit_count m e) (size_bounded false m e f))

plain_fits : (m : ℕ) (e : ℤ) → T (fits binary64 (fin true m e)) → T (fits binary64 (fin false m e))
unfolding fits
plain_fits zero e f = f
plain_fits (suc m) e f = f

-- ---- the bits of a magnitude are those of the number without the sign's
signed_bits : (m : ℕ) (e : ℤ) → to_bits binary64 (fin true m e) ≡ 2 ^ 63 + to_bits binary64 (fin false m e)
unfolding to_bits
signed_bits m e = at (size (unit_count m e) - 53) (unit_count m e / 2 ^ (size (unit_count m e) - 53))
  where
    at : (k y : ℕ) → 2 ^ 63 + k * 2 ^ 52 + y ≡ 2 ^ 63 + (0 + k * 2 ^ 52 + y)
    at k y = omega arith

pub magnitude_bits : (x : Float) → T (fits binary64 x) → to_bits binary64 (magnitude x) ≡ to_bits binary64 x % 2 ^ 63
magnitude_bits nan f = unfold magnitude to_bits in refl
magnitude_bits (inf true) f = unfold magnitude to_bits in refl
magnitude_bits (inf false) f = unfold magnitude to_bits in refl
magnitude_bits (fin false m e) f = unfold magnitude in (sym (mod-eq_of_lt (lt_of_lt_of_le (number_bits m e f) (lit≤ tt))))
magnitude_bits (fin true m e) f =
    unfold magnitude in (off (to_bits binary64 (fin false m e)) (number_bits m e (plain_fits m e f)) ∙ ap (λ (z : ℕ). z % 2 ^ 63) (sym (signed_bits m e)))
  where
    off : (b : ℕ) → b < 2047 * 2 ^ 52 → b ≡ (2 ^ 63 + b) % 2 ^ 63
    off b h = omega arith

-- ---- what has no minus: its bits rise with it
nan_bits_lem : (y : Float) → T (fits binary64 y) → sign y ≡ false → to_bits binary64 y ≤ to_bits binary64 nan
nan_bits_lem nan f s = le_refl _
nan_bits_lem (inf true) f s = absurd (true≢false s)
nan_bits_lem (inf false) f s = unfold to_bits in (lit≤ tt)
nan_bits_lem (fin true m e) f s = absurd (true≢false s)
nan_bits_lem (fin false m e) f s = le_trans (le_of_lt (number_bits m e f)) (unfold to_bits in (lit≤ tt))

pub bits_mono : (x y : Float) → T (fits binary64 x) → T (fits binary64 y) → sign x ≡ false → sign y ≡ false → T (le x y) → to_bits binary64 x ≤ to_bits binary64 y
bits_mono nan y f g s t l = absurd (unfold le lt eq in l)
bits_mono (inf true) y f g s t l = absurd (true≢false s)
bits_mono (inf false) nan f g s t l = absurd (unfold le lt eq in l)
bits_mono (inf false) (inf true) f g s t l = absurd (true≢false t)
bits_mono (inf false) (inf false) f g s t l = le_refl _
bits_mono (inf false) (fin u m e) f g s t l = absurd (unfold le lt eq in l)
bits_mono (fin true n d) y f g s t l = absurd (true≢false s)
bits_mono (fin false n d) nan f g s t l = absurd (unfold le lt eq in l)
bits_mono (fin false n d) (inf true) f g s t l = absurd (true≢false t)
bits_mono (fin false n d) (inf false) f g s t l = le_trans (le_of_lt (number_bits n d f)) (unfold to_bits in (lit≤ tt))
bits_mono (fin false n d) (fin true m e) f g s t l = absurd (true≢false t)
bits_mono (fin false n d) (fin false m e) f g s t l = le_trans (le_of_eq (bits_are n d)) (le_trans (pattern_mono (unit_count n d) (unit_count m e) (fewer_units n d m e l)) (le_of_eq (sym (bits_are m e))))

higher : (x y : Float) → T (fits binary64 x) → T (fits binary64 y) → sign x ≡ false → sign y ≡ false
    → ((larger x y ≡ x) × (to_bits binary64 y ≤ to_bits binary64 x)) ⊎ ((larger x y ≡ y) × (to_bits binary64 x ≤ to_bits binary64 y))
unfolding larger
higher x y f g s t = go (is_nan x) refl (is_nan y) refl (lt y x) refl
  where
    go : (a : Bool) → is_nan x ≡ a → (b : Bool) → is_nan y ≡ b → (c : Bool) → lt y x ≡ c
        → ((cond (is_nan x || lt y x) x y ≡ x) × (to_bits binary64 y ≤ to_bits binary64 x)) ⊎ ((cond (is_nan x || lt y x) x y ≡ y) × (to_bits binary64 x ≤ to_bits binary64 y))
    go true p b q c r = inl (ap (λ (a : Bool). cond (a || lt y x) x y) p, le_trans (nan_bits_lem y g t) (le_of_eq (ap (to_bits binary64) (sym (is_nan_lem x p)))))
    go false p b q true r = inl (ap (λ (a : Bool). cond (a || lt y x) x y) p ∙ ap (λ (a : Bool). cond a x y) r, bits_mono y x g f t s (lt→le y x (subst T (sym r) tt)))
    go false p true q false r = inr (ap (λ (a : Bool). cond (a || lt y x) x y) p ∙ ap (λ (a : Bool). cond a x y) r, le_trans (nan_bits_lem x f s) (le_of_eq (ap (to_bits binary64) (sym (is_nan_lem y q)))))
    go false p false q false r =
        inr (ap (λ (a : Bool). cond (a || lt y x) x y) p ∙ ap (λ (a : Bool). cond a x y) r, bits_mono x y f g s t (le_of_not_lt y x (subst (λ (a : Bool). T (not a)) (sym q) tt) (subst (λ (a : Bool). T (not a)) (sym p) tt) (λ l. subst T r l)))

-- the pattern of the larger is the larger pattern
pub larger_bits : (x y : Float) → T (fits binary64 x) → T (fits binary64 y) → sign x ≡ false → sign y ≡ false
    → (to_bits binary64 y < to_bits binary64 x → to_bits binary64 x ≡ to_bits binary64 (larger x y)) × (to_bits binary64 x ≤ to_bits binary64 y → to_bits binary64 y ≡ to_bits binary64 (larger x y))
larger_bits x y f g s t = ends (higher x y f g s t)
  where
    ends : ((larger x y ≡ x) × (to_bits binary64 y ≤ to_bits binary64 x)) ⊎ ((larger x y ≡ y) × (to_bits binary64 x ≤ to_bits binary64 y))
        → (to_bits binary64 y < to_bits binary64 x → to_bits binary64 x ≡ to_bits binary64 (larger x y)) × (to_bits binary64 x ≤ to_bits binary64 y → to_bits binary64 y ≡ to_bits binary64 (larger x y))
    ends (inl h) = (λ l. ap (to_bits binary64) (sym h.0), λ l. le_antisymm h.1 l ∙ ap (to_bits binary64) (sym h.0))
    ends (inr h) = (λ l. absurd (not-le_of_lt l h.1), λ l. ap (to_bits binary64) (sym h.0))

-- ---- magnitudes

pub magnitude_fits : (x : Float) → T (fits binary64 x) → T (fits binary64 (magnitude x))
unfolding magnitude fits
magnitude_fits nan f = tt
magnitude_fits (inf s) f = tt
magnitude_fits (fin s zero e) f = f
magnitude_fits (fin s (suc m) e) f = f

pub magnitude_sign : (x : Float) → sign (magnitude x) ≡ false
unfolding magnitude
magnitude_sign nan = refl
magnitude_sign (inf s) = refl
magnitude_sign (fin s m e) = refl

-- ---- a magnitude that is at most zero is a zero's

pub magnitude_zero : (x : Float) → le (magnitude x) nought ≡ eq x nought
unfolding magnitude le lt eq of_bits
magnitude_zero nan = refl
magnitude_zero (inf s) = refl
magnitude_zero (fin s m e) = at s (m * up e * 1) (0 * down e) (zero-mul (down e))
  where
    at : (s : Bool) (a b : ℕ) → b ≡ 0 → (below false a false b || level false a false b) ≡ level s a false b
    at true zero b h = rw h
    at false zero b h = rw h
    at s (suc a) b h = rw (h, le-ltb (suc a) 0 (omega arith), ne_eqb (suc a) 0 (λ z. omega (arith, z)))
