-- A product is zero only where it underflows: one that is 2^-1074 or more in magnitude, before it is rounded, is not. Assumes nothing.
use mathlib.Core.Path.{◌≡◌, refl, sym, ◌∙◌, ap}
use mathlib.Core.Bool.{Bool, true, false, cond}
use Prim.Native.Nat.{ℕ, zero, suc, ◌*◌, ◌^◌, ◌≤◌, ◌<◌}
use native.Mathlib.Nat.{mul-pos, one-mul, le_trans, le_of_eq}
use native.Mathlib.Omega.{arith}
use lib.Dec.{T, eqb, ltb}
use lib.Pow.{pow_pos}
use lib.Ieee.{Float, nan, inf, fin, binary64, up, down, unlike, odd, units, round, mul, lt, le, of_bits}
use lib.Ieee.Fits.{down_pos, round_is}
use lib.Ieee.Order.{round_mono}
use borrow.Author.Tests.{ne_eqb}
use Rattle.float.specs.Numbers.{◌⊗◌}
use Rattle.float.specs.Constants.{nought}
use Rattle.float.proofs.Order.{top, bottom, lt_real, le_real, le_le_trans, lt_not_le, lt_of_not_le}
use Rattle.float.proofs.Signs.{fin_above}

-- +0 or −0
abbrev pub zero? : Float → Bool
zero? nan = false
zero? (inf s) = false
zero? (fin s m e) = eqb m 0

-- the product is at least the least f64 above zero, in magnitude and before it is rounded
abbrev pub Kept : (x y : Float) → Type 0
Kept x y = bottom x * bottom y ≤ top x * top y * 2 ^ 1074

-- the sign does not matter
units_zero : (s : Bool) (q k : ℕ) → zero? (units binary64 s q k) ≡ zero? (units binary64 false q k)
unfolding units odd
units_zero s q k = go (ltb (q * 2 ^ k) (2 ^ 2098)) q
  where
    go : (b : Bool) (q : ℕ) → zero? (cond b (odd 54 s q k 1074) (inf s)) ≡ zero? (cond b (odd 54 false q k 1074) (inf false))
    go true zero = refl
    go true (suc q) = refl
    go false q = refl

round_zero? : (s : Bool) (n c : ℕ) → zero? (round binary64 s n c) ≡ zero? (round binary64 false n c)
round_zero? s n c = ap zero? (round_is binary64 s n c) ∙ units_zero s _ _ ∙ sym (ap zero? (round_is binary64 false n c))

above_not_zero : (x : Float) → T (lt nought x) → zero? x ≡ false
above_not_zero nan t = refl
above_not_zero (inf s) t = refl
above_not_zero (fin s m e) t = ne_eqb m 0 (λ h. no m (fin_above s m e t).1 h)
  where
    no : (m : ℕ) → 0 < m → m ≡ 0 → ⊥
    no m h e = omega arith

least_above : T (lt nought (round binary64 false 1 (2 ^ 1074)))
unfolding round lt of_bits
least_above = tt

round_not_zero : (s : Bool) (n c : ℕ) → 0 < c → c ≤ n * 2 ^ 1074 → zero? (round binary64 s n c) ≡ false
round_not_zero s n c C h =
    let least = round binary64 false 1 (2 ^ 1074) in
    let x = round binary64 false n c in
    let up : T (le least x) = round_mono binary64 1 (2 ^ 1074) n c (pow_pos 1074) C (le_trans (le_of_eq (one-mul c)) h) in
    let above : T (lt nought x) = lt_of_not_le nought x (lt_real nought least least_above).0 (le_real least x up).1 (λ low. lt_not_le nought least least_above (le_le_trans least x nought up low)) in
    round_zero? s n c ∙ above_not_zero x above

spoilt_not_zero : (b s : Bool) → zero? (cond b nan (inf s)) ≡ false
spoilt_not_zero true s = refl
spoilt_not_zero false s = refl

pub mul_not_zero : (x y : Float) → Kept x y → zero? (x ⊗ y) ≡ false
unfolding mul
mul_not_zero nan y k = refl
mul_not_zero (inf s) nan k = refl
mul_not_zero (inf s) (inf t) k = refl
mul_not_zero (inf s) (fin t n d) k = spoilt_not_zero (eqb n 0) (unlike s t)
mul_not_zero (fin s m e) nan k = refl
mul_not_zero (fin s m e) (inf t) k = spoilt_not_zero (eqb m 0) (unlike s t)
mul_not_zero (fin s m e) (fin t n d) k = round_not_zero (unlike s t) (m * up e * (n * up d)) (down e * down d) (mul-pos (down_pos e) (down_pos d)) k
