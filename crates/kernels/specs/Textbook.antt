-- Request Six: "A dogleg with the textbook's first leg." Definitions only.
use Rattle.std.specs.Prelude.{◌≡◌, Bool, cond, not, ◌&&◌, List, ◌⊎◌, ℕ, T, Float}
use Rattle.std.specs.Float.Ieee.{lt, le}
use Rattle.float.specs.Numbers.{◌⊕◌, ◌⊖◌, ◌⊗◌, ◌⊘◌, square}
use Rattle.float.specs.Constants.{nought}
use Rattle.root.specs.Root.{root}
use Rattle.vectors.specs.Vector.{norm, weighted, plus, minus, scale}
use Rattle.vectors.specs.Refusal.{refused, given}
use Rattle.kernels.specs.Kernel.{Kernel, made, handed_out}
use Rattle.kernels.specs.CauchyPoint.{factor, cauchy_point}
use Rattle.kernels.specs.Dogleg.{measured, unconstrained, newton, between}
use Rattle.vectors.specs.declared.refusal.Refusal.{Refusal}

-- "if ‖pu‖ ≥ radius the step is pu·(radius/‖pu‖)"
unfoldable pub first_leg : ℕ → Float → List Float → List Float
unfolding norm scale
first_leg n radius pu = scale n pu (radius ⊘ norm pu)

-- "(t − c)/k, with c and k as before and t the root of c² + k·(D − u)"
unfoldable pub along : (c k u D : Float) → Float
unfolding root
along c k u D = (root (square c ⊕ k ⊗ (D ⊖ u)) ⊖ c) ⊘ k

-- "otherwise it is pu + v·((t − c)/k)"
unfoldable pub second_leg : ℕ → Float → (pu v : List Float) → List Float
unfolding measured along plus scale
second_leg n radius pu v = plus n pu (scale n v (measured radius pu v along))

unfoldable pub legs : ℕ → Float → (pb pu : List Float) → List Float
unfolding norm minus first_leg second_leg
legs n radius pb pu = cond (le radius (norm pu)) (first_leg n radius pu) (second_leg n radius pu (minus n pb pu))

-- pb, "outside ‖pb‖ ≤ radius" one of the legs
unfoldable pub textbook_step : ℕ → Float → (pb pu : List Float) → List Float
unfolding norm legs
textbook_step n radius pb pu = cond (le (norm pb) radius) pb (legs n radius pb pu)

-- "First, unless g·H·g > 0 (NaN is not), it answers as Cauchy does and takes no inverse."
unfoldable pub textbook_dogleg : Kernel
unfolding weighted between textbook_step cauchy_point
textbook_dogleg n radius g H = cond (lt nought (weighted n g H g)) (between textbook_step n radius g H) (cauchy_point n radius g H)

-- ---- "which leg the step comes from"

pub data Leg : Type 0 where
  as_cauchy : Leg
  whole : Leg
  first : Leg
  second : Leg

-- when it comes from a leg, by the three tests: g·H·g > 0, ‖pb‖ ≤ radius, ‖pu‖ ≥ radius
abbrev pub holds : Leg → (curved inside beyond : Bool) → Bool
holds as_cauchy curved inside beyond = not curved
holds whole curved inside beyond = curved && inside
holds first curved inside beyond = curved && (not inside && beyond)
holds second curved inside beyond = curved && (not inside && not beyond)

module _ (n : ℕ) (radius : Float) (g H pb : List Float) where
  abbrev pu : List Float
  pu = unconstrained n g H

  -- pb is Newton's point; as Cauchy's the step does not turn on it
  abbrev pub on : Leg → Bool
  on leg = holds leg (lt nought (weighted n g H g)) (le (norm pb) radius) (le radius (norm pu))

  -- its bits by formula
  abbrev pub step_on : Leg → List Float
  step_on as_cauchy = scale n g (factor radius (weighted n g H g) (norm g))
  step_on whole = pb
  step_on first = first_leg n radius pu
  step_on second = second_leg n radius pu (minus n pb pu)

  -- the leg's condition holds, no other's does, and the kernel answers with the leg's step (by 8 where that is not finite)
  pub record Comes_from (leg : Leg) : Type 0 where
    pub here : T (on leg)
    pub alone : (other : Leg) → T (on other) → other ≡ leg
    pub by_formula : textbook_dogleg n radius g H ≡ handed_out (made 0 (step_on leg))

-- what is told of every input: the inverse refuses where it is taken, or there is one leg
pub data Told (n : ℕ) (radius : Float) (g H : List Float) : Type 0 where
  no_inverse : (r : Refusal) → T (lt nought (weighted n g H g)) → newton n g H ≡ refused r → textbook_dogleg n radius g H ≡ refused r → Told n radius g H
  comes : (pb : List Float) (leg : Leg) → (leg ≡ as_cauchy) ⊎ (newton n g H ≡ given pb) → Comes_from n radius g H pb leg → Told n radius g H
