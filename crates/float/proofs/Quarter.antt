-- A quarter of what is at most a bound above zero is at most that bound. Assumes nothing.
use mathlib.Core.Path.{refl, sym, subst}
use mathlib.Core.Bool.{Bool, true, false, cond, true≢false}
use Prim.Native.Nat.{ℕ, zero, suc, ◌+◌, ◌*◌, ◌^◌}
use native.Mathlib.Nat.{mul-pos, zero-lt-suc}
use lib.Dec.{T, ltb}
use lib.IntN.{ℤ}
use lib.Ieee.{Float, nan, inf, fin, binary64, prec, emax, low, up, down, units, odd, round, mul, fits, lt, le, of_bits, is_nan}
use lib.Ieee.Fits.{down_pos, round_is}
use Rattle.float.specs.Numbers.{◌⊗◌}
use Rattle.float.specs.Constants.{nought, quarter}
use Rattle.float.proofs.Nan.{real}
use Rattle.float.proofs.Order.{le_real, lt→le, le_of_not_lt, le_le_trans, le_lt_trans}
use Rattle.float.proofs.Signs.{not_negative, round_above, quarter_le}

-- rounding makes no NaN
units_real : (s : Bool) (q k : ℕ) → T (real (units binary64 s q k))
unfolding units odd is_nan
units_real s q k = go (ltb (q * 2 ^ k) (2 ^ (low binary64 + suc (emax binary64)))) q
  where
    go : (b : Bool) (q : ℕ) → T (real (cond b (odd (suc (prec binary64)) s q k (low binary64)) (inf s)))
    go true zero = tt
    go true (suc q) = tt
    go false q = tt

round_real : (s : Bool) (a c : ℕ) → T (real (round binary64 s a c))
round_real s a c = subst (λ (x : Float). T (real x)) (sym (round_is binary64 s a c)) (units_real s _ _)

-- a quarter of a number below zero is not above zero
minus : (m : ℕ) (e : ℤ) → T (le (quarter ⊗ fin true m e) nought)
unfolding mul of_bits
minus m e =
    le_of_not_lt nought (quarter ⊗ fin true m e) (unfold is_nan in tt) (round_real true (1 * 1 * (m * up e)) (4 * down e))
    (λ t. true≢false (round_above true (1 * 1 * (m * up e)) (4 * down e) (mul-pos (zero-lt-suc 3) (down_pos e)) t).0)

pub quarter_within : (x bound : Float) → T (fits binary64 x) → T (lt nought bound) → T (le x bound) → T (le (quarter ⊗ x) bound)
quarter_within nan bound f p h = absurd (unfold is_nan in (le_real nan bound h).0)
quarter_within (inf true) bound f p h = unfold mul of_bits in h
quarter_within (inf false) bound f p h = unfold mul of_bits in h
quarter_within (fin true m e) bound f p h = lt→le (quarter ⊗ fin true m e) bound (le_lt_trans (quarter ⊗ fin true m e) nought bound (minus m e) p)
quarter_within (fin false m e) bound f p h = le_le_trans (quarter ⊗ fin false m e) (fin false m e) bound (quarter_le (fin false m e) f (not_negative (fin false m e) (unfold is_nan in tt) refl)) h
