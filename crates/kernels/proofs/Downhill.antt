-- What the first leg of the textbook's dogleg has of the gradient: each number is the gradient's times a number with a minus (below zero, or −0) and then times one
-- without, so that it has the other sign. A zero counts by its sign; it is zero only where one of the two products underflows, and `textbook_zero` of marked is an input where that is. Assumes nothing.
use mathlib.Core.Path.{◌≡◌, refl, ◌∙◌, ap}
use mathlib.Core.Bool.{Bool, true, false, not}
use mathlib.Core.List.{List}
use Prim.Native.Nat.{ℕ, ◌<◌}
use lib.Dec.{T}
use lib.Ieee.{Float, unlike, neg, lt, le}
use Rattle.float.specs.Numbers.{◌⊗◌, ◌⊘◌}
use Rattle.float.specs.Constants.{nought}
use Rattle.float.proofs.Nan.{real}
use Rattle.float.proofs.Order.{sign, lt_real, le_real, le_le_trans, lt_not_le, lt_of_not_le}
use Rattle.float.proofs.Zero.{zero?, Kept, mul_not_zero}
use Rattle.float.proofs.Signs.{above_sign, neg_sign, neg_real, mul_sign, mul_real, div_sign, div_real}
use Rattle.vectors.specs.Vector.{at, dot, norm, weighted, scale}
use Rattle.vectors.proofs.Vectors.{at_tab}
use Rattle.vectors.proofs.Norms.{dot_sign}
use Rattle.kernels.specs.Dogleg.{towards, unconstrained}
use Rattle.kernels.specs.Textbook.{first_leg}

module _ (n : ℕ) (radius : Float) (g H : List Float) where
  abbrev pu : List Float
  pu = unconstrained n g H

  -- what g is multiplied by, first and then
  abbrev slope : Float
  slope = neg (dot g g) ⊘ weighted n g H g

  abbrev share : Float
  share = radius ⊘ norm pu

  pub record Falls (i : ℕ) : Type 0 where
    pub product : at (first_leg n radius pu) i ≡ (at g i ⊗ slope) ⊗ share
    pub minus : sign slope ≡ true
    pub no_minus : sign share ≡ false
    pub turned : sign (at (first_leg n radius pu) i) ≡ not (sign (at g i))

  module _ (i : ℕ) (h : i < n) where
    is_scaled : at (first_leg n radius pu) i ≡ at pu i ⊗ share
    unfolding first_leg scale
    is_scaled = at_tab n (λ j. at pu j ⊗ share) i h

    is_sloped : at pu i ≡ at g i ⊗ slope
    unfolding unconstrained towards scale
    is_sloped = at_tab n (λ j. at g j ⊗ slope) i h

    is_product : at (first_leg n radius pu) i ≡ (at g i ⊗ slope) ⊗ share
    is_product = is_scaled ∙ ap (λ (x : Float). x ⊗ share) is_sloped

    -- a number of pu, and of the first leg, is not zero where its product does not underflow
    pub sloped : Kept (at g i) slope → zero? (at pu i) ≡ false
    sloped k = ap zero? is_sloped ∙ mul_not_zero (at g i) slope k

    pub never_zero : Kept (at pu i) share → zero? (at (first_leg n radius pu) i) ≡ false
    never_zero k = ap zero? is_scaled ∙ mul_not_zero (at pu i) share k

  module _ (curved : T (lt nought (weighted n g H g))) (positive : T (lt nought radius)) (beyond : T (le radius (norm pu))) (i : ℕ) (h : i < n) where
    norm_above : T (lt nought (norm pu))
    norm_above = lt_of_not_le nought (norm pu) (lt_real nought radius positive).0 (le_real radius (norm pu) beyond).1 (λ low. lt_not_le nought radius positive (le_le_trans radius (norm pu) nought beyond low))

    -- where the number is no NaN
    pub downhill : T (real (at (first_leg n radius pu) i)) → Falls i
    downhill r =
        let q : T (real ((at g i ⊗ slope) ⊗ share)) = rw (is_product i h) at r in
        let outer = mul_real (at g i ⊗ slope) share q in
        let inner = mul_real (at g i) slope outer.0 in
        let squares = neg_real (dot g g) (div_real (neg (dot g g)) (weighted n g H g) inner.1) in
        let down : sign slope ≡ true = div_sign (neg (dot g g)) (weighted n g H g) inner.1 ∙ rw (neg_sign (dot g g) squares, dot_sign g, above_sign (weighted n g H g) curved) in
        let up : sign share ≡ false = div_sign radius (norm pu) outer.1 ∙ rw (above_sign radius positive, above_sign (norm pu) norm_above) in
        record {
          product = is_product i h;
          minus = down;
          no_minus = up;
          turned = ap sign (is_product i h) ∙ mul_sign (at g i ⊗ slope) share q ∙ rw (mul_sign (at g i) slope outer.0, down, up) (turn (sign (at g i)));
        } where
          turn : (s : Bool) → unlike (unlike s true) false ≡ not s
          turn true = refl
          turn false = refl
