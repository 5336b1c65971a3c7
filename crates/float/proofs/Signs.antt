-- Signs of rounded sums, differences, products and quotients, and what a quarter and the smaller of two are no larger than. Assumes nothing.
use mathlib.Core.Path.{◌≡◌, refl, sym, ap, ◌∙◌, subst}
use mathlib.Core.Logic.{inl, inr}
use Prim.Native.Nat.{ℕ, zero, suc, ◌+◌, ◌-◌, ◌*◌, ◌^◌, ◌≤◌, ◌<◌, zero-le}
use native.Mathlib.Nat.{le_trans, le_of_eq, lt_of_lt_of_le, lt_of_le_of_lt, lt_irrefl, eq-zero-or-pos, zero-mul, one-mul, mul-pos, mul-le-mul_right, mul-le-mul_left, zero-lt-suc}
use native.Mathlib.Omega.{arith}
use mathlib.Core.Bool.{Bool, true, false, not, cond, true≢false}
use lib.IntN.{ℤ, pos}
use lib.Dec.{T, eqb, ltb, ltb→lt, lt→ltb, nltb→le}
use lib.Pow.{pow_pos}
use lib.Ieee.{Float, nan, inf, fin, binary64, up, down, below, unlike, odd, units, round, neg, sum, add, sub, mul, div, lt, le, fits, of_bits, is_nan}
use lib.Ieee.Fits.{up_pos, down_pos, round_is}
use lib.Ieee.Exact.{HasValue, round_exact}
use lib.Ieee.Order.{round_mono}
use lib.Ieee.Positive.{first_pos}
use borrow.Author.Tests.{ne_eqb}
use Rattle.float.specs.Numbers.{◌⊕◌, ◌⊖◌, ◌⊗◌, ◌⊘◌, smaller}
use Rattle.float.specs.Constants.{nought, quarter}
use Rattle.float.proofs.Nan.{real}
use Rattle.float.proofs.Scalars.{zero_exponent}
use Rattle.float.proofs.Order.{sign, top, bottom, AtMost, AtMost→le, le→AtMost, le_real, le_self, lt→le}
use Rattle.float.proofs.Values.{round_own}

-- ---- what is above zero, and what is not below it

-- a number is above zero where it is not negative and not zero
pub fin_above : (s : Bool) (m : ℕ) (e : ℤ) → T (lt nought (fin s m e)) → (s ≡ false) × (0 < m)
unfolding lt of_bits
fin_above true m e t = absurd t
fin_above false m e t = (refl, first_pos m (up e) (first_pos (m * up e) 1 (lt_of_le_of_lt zero-le (ltb→lt (0 * down e) (m * up e * 1) t))))

above_fin : (s : Bool) (m : ℕ) (e : ℤ) → s ≡ false → 0 < m → T (lt nought (fin s m e))
unfolding lt of_bits
above_fin true m e h M = absurd (true≢false h)
above_fin false m e h M = lt→ltb (0 * down e) (m * up e * 1) (lt_of_le_of_lt (le_of_eq (zero-mul (down e))) (mul-pos (mul-pos M (up_pos e)) (zero-lt-suc 0)))

inf_above : (s : Bool) → T (lt nought (inf s)) → s ≡ false
unfolding lt of_bits
inf_above true t = absurd t
inf_above false t = refl

above_inf : (s : Bool) → s ≡ false → T (lt nought (inf s))
unfolding lt of_bits
above_inf true e = absurd (true≢false e)
above_inf false e = tt

-- what has no minus is not below zero
pub not_negative : (x : Float) → T (real x) → sign x ≡ false → T (le nought x)
unfolding of_bits is_nan
not_negative x r e = AtMost→le nought x tt r (at (sign x) e)
  where
    at : (s : Bool) → s ≡ false → AtMost false (0 * 1) 1 s (top x) (bottom x)
    at false e = le_trans (le_of_eq (zero-mul (bottom x))) zero-le
    at true e = absurd (true≢false e)

-- and neither is a zero
pub zero_not_negative : (s : Bool) (e : ℤ) → T (le nought (fin s zero e))
unfolding of_bits is_nan
zero_not_negative s e = AtMost→le nought (fin s zero e) tt tt (at s)
  where
    at : (s : Bool) → AtMost false (0 * 1) 1 s (0 * up e) (down e)
    at false = le_trans (le_of_eq (zero-mul (down e))) zero-le
    at true = (refl, zero-mul (up e))

no_negative : (m : ℕ) (e : ℤ) → T (le nought (fin true (suc m) e)) → ⊥
unfolding of_bits
no_negative m e t = lt_irrefl 0 (lt_of_lt_of_le (mul-pos (zero-lt-suc m) (up_pos e)) (le_of_eq (le→AtMost nought (fin true (suc m) e) t).1))

-- ---- rounding keeps the sign
pub odd_sign : (d : ℕ) (s : Bool) (q k l : ℕ) → sign (odd d s q k l) ≡ s
unfolding odd
odd_sign d s zero k l = refl
odd_sign d s (suc q) k l = refl

units_sign : (s : Bool) (q k : ℕ) → sign (units binary64 s q k) ≡ s
unfolding units
units_sign s q k = go (ltb (q * 2 ^ k) (2 ^ 2098))
  where
    go : (b : Bool) → sign (cond b (odd 54 s q k 1074) (inf s)) ≡ s
    go true = odd_sign 54 s q k 1074
    go false = refl

round_sign : (s : Bool) (n c : ℕ) → sign (round binary64 s n c) ≡ s
round_sign s n c = ap sign (round_is binary64 s n c) ∙ units_sign s _ _

-- ---- so the sign of what is no NaN is that of its operands; a NaN has none, which counts as no minus

pub above_sign : (x : Float) → T (lt nought x) → sign x ≡ false
above_sign nan t = refl
above_sign (inf s) t = inf_above s t
above_sign (fin s m e) t = (fin_above s m e t).0

pub neg_sign : (x : Float) → T (real x) → sign (neg x) ≡ not (sign x)
unfolding neg is_nan
neg_sign nan r = absurd r
neg_sign (inf s) r = refl
neg_sign (fin s m e) r = refl

pub neg_real : (x : Float) → T (real (neg x)) → T (real x)
unfolding neg is_nan
neg_real nan r = absurd r
neg_real (inf s) r = tt
neg_real (fin s m e) r = tt

-- an infinity, unless a zero spoils it
spoilt_sign : (b s : Bool) → T (real (cond b nan (inf s))) → sign (cond b nan (inf s)) ≡ s
unfolding is_nan
spoilt_sign true s r = absurd r
spoilt_sign false s r = refl

pub mul_sign : (x y : Float) → T (real (x ⊗ y)) → sign (x ⊗ y) ≡ unlike (sign x) (sign y)
unfolding mul is_nan
mul_sign nan y r = absurd r
mul_sign (inf s) nan r = absurd r
mul_sign (inf s) (inf t) r = refl
mul_sign (inf s) (fin t n d) r = spoilt_sign (eqb n 0) (unlike s t) r
mul_sign (fin s m e) nan r = absurd r
mul_sign (fin s m e) (inf t) r = spoilt_sign (eqb m 0) (unlike s t) r
mul_sign (fin s m e) (fin t n d) r = round_sign (unlike s t) (m * up e * (n * up d)) (down e * down d)

pub mul_real : (x y : Float) → T (real (x ⊗ y)) → T (real x) × T (real y)
unfolding mul is_nan
mul_real nan y r = absurd r
mul_real (inf s) nan r = absurd r
mul_real (inf s) (inf t) r = (tt, tt)
mul_real (inf s) (fin t n d) r = (tt, tt)
mul_real (fin s m e) nan r = absurd r
mul_real (fin s m e) (inf t) r = (tt, tt)
mul_real (fin s m e) (fin t n d) r = (tt, tt)

pub div_sign : (x y : Float) → T (real (x ⊘ y)) → sign (x ⊘ y) ≡ unlike (sign x) (sign y)
unfolding div is_nan
div_sign nan y r = absurd r
div_sign (inf s) nan r = absurd r
div_sign (inf s) (inf t) r = absurd r
div_sign (inf s) (fin t n d) r = refl
div_sign (fin s m e) nan r = absurd r
div_sign (fin s m e) (inf t) r = refl
div_sign (fin s m e) (fin t n d) r = go (eqb n 0) r
  where
    go : (b : Bool) → T (real (cond b (cond (eqb m 0) nan (inf (unlike s t))) (round binary64 (unlike s t) (m * up e * down d) (n * up d * down e))))
        → sign (cond b (cond (eqb m 0) nan (inf (unlike s t))) (round binary64 (unlike s t) (m * up e * down d) (n * up d * down e))) ≡ unlike s t
    go true q = spoilt_sign (eqb m 0) (unlike s t) q
    go false q = round_sign (unlike s t) (m * up e * down d) (n * up d * down e)

pub div_real : (x y : Float) → T (real (x ⊘ y)) → T (real x)
unfolding div is_nan
div_real nan y r = absurd r
div_real (inf s) y r = tt
div_real (fin s m e) y r = tt

pub square_sign : (x : Float) → sign (x ⊗ x) ≡ false
unfolding mul
square_sign nan = refl
square_sign (inf true) = refl
square_sign (inf false) = refl
square_sign (fin true m e) = round_sign false (m * up e * (m * up e)) (down e * down e)
square_sign (fin false m e) = round_sign false (m * up e * (m * up e)) (down e * down e)

pub add_sign : (x y : Float) → sign x ≡ false → sign y ≡ false → sign (x ⊕ y) ≡ false
unfolding add sum
add_sign nan y p q = refl
add_sign (inf s) nan p q = refl
add_sign (inf true) (inf t) p q = absurd (true≢false p)
add_sign (inf false) (inf true) p q = absurd (true≢false q)
add_sign (inf false) (inf false) p q = refl
add_sign (inf s) (fin t n d) p q = p
add_sign (fin s m e) nan p q = refl
add_sign (fin s m e) (inf t) p q = q
add_sign (fin true m e) (fin t n d) p q = absurd (true≢false p)
add_sign (fin false m e) (fin true n d) p q = absurd (true≢false q)
add_sign (fin false m e) (fin false n d) p q = round_sign false (m * up e * down d + n * up d * down e) (down e * down d)

-- a fraction that rounds to a number above zero is above zero itself
negative_not : (x : Float) → sign x ≡ true → T (lt nought x) → ⊥
unfolding lt of_bits
negative_not nan e t = t
negative_not (inf true) e t = t
negative_not (inf false) e t = true≢false (sym e)
negative_not (fin true m k) e t = t
negative_not (fin false m k) e t = true≢false (sym e)

zero_not : (x : Float) (s : Bool) (c : ℕ) → 0 < c → HasValue x s 0 c → T (lt nought x) → ⊥
unfolding lt of_bits
zero_not nan s c C v t = v
zero_not (inf u) s c C v t = v
zero_not (fin u m e) s c C v t = lt_irrefl 0 (lt_of_lt_of_le (mul-pos (mul-pos (fin_above u m e t).1 (up_pos e)) C) (le_of_eq (v.1 ∙ zero-mul (down e))))

round_zero : (s : Bool) (c : ℕ) → 0 < c → HasValue (round binary64 s 0 c) s 0 c
round_zero s c C = round_exact binary64 s 0 c 0 0 C (pow_pos 53) (pow_pos 2098) (zero-mul (2 ^ 1074) ∙ sym (zero-mul c))

pub round_above : (s : Bool) (n c : ℕ) → 0 < c → T (lt nought (round binary64 s n c)) → (s ≡ false) × (0 < n)
round_above true n c C t = absurd (negative_not (round binary64 true n c) (round_sign true n c) t)
round_above false n c C t = (
  refl,
  elim (eq-zero-or-pos n) [ inl e ↦ absurd (zero_not (round binary64 false 0 c) false c C (round_zero false c C) (subst (λ (z : ℕ). T (lt nought (round binary64 false z c))) e t)) | inr p ↦ p ],
)

-- ---- a difference above zero: ±a / c less ±b / c
apart : (s t : Bool) (a b c : ℕ) → 0 < c → T (lt nought (sum binary64 s a (not t) b c)) → T (below t b s a)
unfolding sum
apart false false a b c C h = go (ltb a b) h
  where
    less_pos : (a b : ℕ) → 0 < a - b → b < a
    less_pos a b h = omega arith

    go : (x : Bool) → T (lt nought (cond x (round binary64 true (b - a) c) (round binary64 false (a - b) c))) → T (ltb b a)
    go true k = absurd (true≢false (round_above true (b - a) c C k).0)
    go false k = lt→ltb b a (less_pos a b (round_above false (a - b) c C k).1)
apart false true a b c C h = lt→ltb 0 (b + a) (flip a b (round_above false (a + b) c C h).1)
  where
    flip : (a b : ℕ) → 0 < a + b → 0 < b + a
    flip a b h = omega arith
apart true false a b c C h = absurd (true≢false (round_above true (a + b) c C h).0)
apart true true a b c C h = go (ltb a b) (ltb b a) (nltb→le b a) h
  where
    no : (a b : ℕ) → 0 < a - b → a ≤ b → ⊥
    no a b h k = omega arith

    go : (x y : Bool) → (T (not y) → a ≤ b) → T (lt nought (cond x (round binary64 false (b - a) c) (round binary64 y (a - b) c))) → T x
    go true y n k = tt
    go false true n k = absurd (true≢false (round_above true (a - b) c C k).0)
    go false false n k = absurd (no a b (round_above false (a - b) c C k).1 (n tt))

pub sub_above : (x y : Float) → T (lt nought (x ⊖ y)) → T (lt y x)
unfolding sub lt of_bits
sub_above nan y h = absurd h
sub_above (inf s) nan h = absurd h
sub_above (inf true) (inf true) h = absurd h
sub_above (inf true) (inf false) h = absurd h
sub_above (inf false) (inf true) h = tt
sub_above (inf false) (inf false) h = absurd h
sub_above (inf true) (fin t n d) h = absurd h
sub_above (inf false) (fin t n d) h = tt
sub_above (fin s m e) nan h = absurd h
sub_above (fin s m e) (inf true) h = tt
sub_above (fin s m e) (inf false) h = absurd h
sub_above (fin s m e) (fin t n d) h = apart s t (m * up e * down d) (n * up d * down e) (down e * down d) (mul-pos (down_pos e) (down_pos d)) h

-- ---- a quotient above zero, the divisor above zero: what is divided is above zero
like : (s t : Bool) → unlike s t ≡ false → t ≡ false → s ≡ false
like true true e h = absurd (true≢false h)
like true false e h = absurd (true≢false e)
like false t e h = refl

div_opened : (s : Bool) (m : ℕ) (e : ℤ) (t : Bool) (n : ℕ) (d : ℤ) → 0 < n → fin s m e ⊘ fin t n d ≡ round binary64 (unlike s t) (m * up e * down d) (n * up d * down e)
unfolding div
div_opened s m e t n d N = rw (ne_eqb n 0 (λ h. no n N h))
  where
    no : (n : ℕ) → 0 < n → n ≡ 0 → ⊥
    no n h e = omega arith

no_zero_above : (s : Bool) → T (lt nought (fin s 0 (pos 0))) → ⊥
no_zero_above s t = lt_irrefl 0 (fin_above s 0 (pos 0) t).1

pub div_above : (x y : Float) → T (lt nought y) → T (lt nought (x ⊘ y)) → T (lt nought x)
unfolding div
div_above nan y p h = absurd (unfold lt of_bits in h)
div_above (inf s) nan p h = absurd (unfold lt of_bits in p)
div_above (inf s) (inf t) p h = absurd (unfold lt of_bits in h)
div_above (inf s) (fin t n d) p h = above_inf s (like s t (inf_above (unlike s t) h) (fin_above t n d p).0)
div_above (fin s m e) nan p h = absurd (unfold lt of_bits in p)
div_above (fin s m e) (inf t) p h = absurd (no_zero_above (unlike s t) h)
div_above (fin s m e) (fin t n d) p h =
    let q = fin_above t n d p in
    let r = round_above (unlike s t) (m * up e * down d) (n * up d * down e) (mul-pos (mul-pos q.1 (up_pos d)) (down_pos e)) (subst (λ (z : Float). T (lt nought z)) (div_opened s m e t n d q.1) h) in
    above_fin s m e (like s t r.0 q.0) (first_pos m (up e) (first_pos (m * up e) (down d) r.1))

-- ---- a quarter of an f64 that is not negative is no larger
quarter_fin : (m : ℕ) (e : ℤ) → T (fits binary64 (fin false m e)) → T (le (quarter ⊗ fin false m e) (fin false m e))
unfolding mul of_bits
quarter_fin m e t =
    subst (λ (z : Float). T (le (quarter ⊗ fin false m e) z)) (round_own false m e t)
    (round_mono binary64 (1 * 1 * (m * up e)) (4 * down e) (m * up e) (down e) (mul-pos (zero-lt-suc 3) (down_pos e)) (down_pos e)
    (le_trans (mul-le-mul_right (down e) (le_of_eq (one-mul (m * up e)))) (mul-le-mul_left (m * up e) (more (down e)))))
  where
    more : (d : ℕ) → d ≤ 4 * d
    more d = omega arith

minus_zero : (e : ℤ) → pos 0 ≡ e → T (le (quarter ⊗ fin true 0 e) (fin true 0 e))
minus_zero e h = subst (λ (z : ℤ). T (le (quarter ⊗ fin true 0 z) (fin true 0 z))) h (unfold mul of_bits le in tt)

pub quarter_le : (x : Float) → T (fits binary64 x) → T (le nought x) → T (le (quarter ⊗ x) x)
quarter_le nan f h = absurd (unfold is_nan in (le_real nought nan h).1)
quarter_le (inf true) f h = absurd (unfold le of_bits in h)
quarter_le (inf false) f h = unfold mul le of_bits in tt
quarter_le (fin true zero e) f h = minus_zero e (zero_exponent true e (lib.Ieee.Bits.is_true _ f))
quarter_le (fin true (suc m) e) f h = absurd (no_negative m e h)
quarter_le (fin false m e) f h = quarter_fin m e f

-- ---- the smaller of two is at most the first of them
pub smaller_le : (x y : Float) → T (real x) → T (le (smaller x y) x)
unfolding smaller
smaller_le x y r = go (lt y x) (λ t. t)
  where
    go : (b : Bool) → (T b → T (lt y x)) → T (le (cond b y x) x)
    go true t = lt→le y x (t tt)
    go false t = le_self x r
