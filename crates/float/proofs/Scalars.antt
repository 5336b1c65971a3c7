-- What the library's `is_finite` answers and the code of `magnitude` tests, in the words of the definitions, and the zeros that an f64 has.
-- Assumes nothing.
use mathlib.Core.Path.{◌≡◌, refl, ap}
use mathlib.Core.Bool.{Bool, true, false, ◌&&◌, false≢true}
use Prim.Native.Nat.{zero, suc, ◌+◌, ◌*◌, ◌^◌}
use native.Mathlib.Nat.{mul-pos, pow-suc}
use native.Mathlib.Omega.{arith}
use lib.Dec.{eqb}
use lib.IntN.{ℤ, pos, negsuc}
use lib.Pow.{pow_pos}
use lib.Ieee.{Float, nan, inf, fin, binary64, up, down, fits, lt, eq, neg, of_bits}
use lib.Ieee.Fits.{up_pos}
use borrow.Author.Tests.{ltb-true, ltb-false, eqb-true, eq-eqb}
use Rattle.std.specs.Float.{float_is_finite}
use Rattle.float.specs.Numbers.{finite, magnitude}
use Rattle.float.specs.Constants.{nought}

pub finite_is : (x : Float) → float_is_finite x ≡ finite x
unfolding float_is_finite finite
finite_is nan = refl
finite_is (inf s) = refl
finite_is (fin s m e) = refl

-- ---- magnitude: a number below zero is turned over, a zero loses its sign

pub below_zero : (x : Float) → lt x nought ≡ true → neg x ≡ magnitude x
unfolding lt neg magnitude of_bits
below_zero nan h = refl
below_zero (inf true) h = refl
below_zero (inf false) h = cc
below_zero (fin true m e) h = refl
below_zero (fin false m e) h = absurd (omega (arith, ltb-true (m * up e * 1) (0 * 1 * down e) h))

-- a zero that fits has the exponent 0
pub zero_exponent : (s : Bool) (e : ℤ) → fits binary64 (fin s 0 e) ≡ true → pos 0 ≡ e
unfolding fits
zero_exponent s (pos zero) h = refl
zero_exponent s (pos (suc k)) h = absurd (omega (arith, eqb-true (2 ^ suc k * 1) 1 h, pow-suc 2 k, pow_pos k))
zero_exponent s (negsuc k) h = absurd (omega (arith, eqb-true (1 * 2 ^ suc k) 1 h, pow-suc 2 k, pow_pos k))

both : (a b : Bool) → (a && b) ≡ true → (a ≡ true) × (b ≡ true)
both true b h = (refl, h)
both false b h = (h, absurd (false≢true h))

pub at_zero : (x : Float) → fits binary64 x ≡ true → eq x nought ≡ true → nought ≡ magnitude x
unfolding eq magnitude of_bits
at_zero nan f h = cc
at_zero (inf s) f h = cc
at_zero (fin s zero e) f h = ap (fin false 0) (zero_exponent s e f)
at_zero (fin s (suc m) e) f h =
    let a = eqb-true (suc m * up e * 1) (0 * 1 * down e) (both (eqb (suc m * up e * 1) (0 * 1 * down e)) _ h).0 in
    absurd (omega (arith, a, mul-pos {m = suc m} {n = up e} (omega arith) (up_pos e)))

pub above_zero : (x : Float) → lt x nought ≡ false → eq x nought ≡ false → x ≡ magnitude x
unfolding lt eq magnitude of_bits
above_zero nan h k = refl
above_zero (inf true) h k = cc
above_zero (inf false) h k = refl
above_zero (fin false m e) h k = refl
above_zero (fin true m e) h k =
    let none : m * up e * 1 + 0 * 1 * down e ≡ 0 = omega (arith, ltb-false 0 (m * up e * 1 + 0 * 1 * down e) h) in
    let p : eqb (m * up e * 1) (0 * 1 * down e) ≡ true = eq-eqb (m * up e * 1) (0 * 1 * down e) (omega (arith, none)) in
    let q : eqb (m * up e * 1) 0 ≡ true = eq-eqb (m * up e * 1) 0 (omega (arith, none)) in
    let z = rw (p, q) at k in cc
