-- ⊗ commutes, at every value. Assumes nothing.
use mathlib.Core.Path.{◌≡◌, refl, ap, ◌∙◌}
use Prim.Native.Nat.{ℕ, ◌*◌}
use native.Mathlib.Nat.{mul_comm}
use mathlib.Core.Bool.{Bool, true, false, cond}
use lib.Dec.{eqb}
use lib.Ieee.{Float, nan, inf, fin, binary64, up, down, unlike, round, mul}
use Rattle.float.specs.Numbers.{◌⊗◌}

unlike_commutes : (s t : Bool) → unlike s t ≡ unlike t s
unlike_commutes true true = refl
unlike_commutes true false = refl
unlike_commutes false true = refl
unlike_commutes false false = refl

pub mul_commutes : (x y : Float) → x ⊗ y ≡ y ⊗ x
unfolding mul
mul_commutes nan nan = refl
mul_commutes nan (inf t) = refl
mul_commutes nan (fin t n d) = refl
mul_commutes (inf s) nan = refl
mul_commutes (inf s) (inf t) = ap inf (unlike_commutes s t)
mul_commutes (inf s) (fin t n d) = ap (λ (b : Bool). cond (eqb n 0) nan (inf b)) (unlike_commutes s t)
mul_commutes (fin s m e) nan = refl
mul_commutes (fin s m e) (inf t) = ap (λ (b : Bool). cond (eqb m 0) nan (inf b)) (unlike_commutes s t)
mul_commutes (fin s m e) (fin t n d) =
    ap (λ (b : Bool). round binary64 b (m * up e * (n * up d)) (down e * down d)) (unlike_commutes s t)
    ∙ ap (λ (a : ℕ). round binary64 (unlike t s) a (down e * down d)) (mul_comm (m * up e) (n * up d))
    ∙ ap (λ (c : ℕ). round binary64 (unlike t s) (n * up d * (m * up e)) c) (mul_comm (down e) (down d))
