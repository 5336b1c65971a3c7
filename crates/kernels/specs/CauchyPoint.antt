-- "Cauchy." Definitions only.
use Rattle.std.specs.Prelude.{cond, List, ℕ, Float}
use Rattle.std.specs.Float.Ieee.{le, neg}
use Rattle.float.specs.Numbers.{◌⊗◌, ◌⊘◌, cube, smaller}
use Rattle.float.specs.Constants.{nought, one}
use Rattle.vectors.specs.Vector.{norm, weighted, scale}
use Rattle.vectors.specs.Refusal.{Answer}
use Rattle.kernels.specs.Kernel.{Kernel, Made, made, handed_out}

-- "tau is 1 if w ≤ 0, else the smaller of 1 and ‖g‖³/(radius·w), 1 if that is NaN"
unfoldable pub tau : (radius w norm-g : Float) → Float
unfolding smaller
tau radius w norm-g = cond (le w nought) one (smaller one (cube norm-g ⊘ (radius ⊗ w)))

-- "Step: g times ((−tau)·radius)/‖g‖", with "w = g·H·g"
unfoldable pub factor : (radius w norm-g : Float) → Float
unfolding tau
factor radius w norm-g = neg (tau radius w norm-g) ⊗ radius ⊘ norm-g

unfoldable pub along : ℕ → (radius w norm-g : Float) → List Float → Answer Made
unfolding factor scale handed_out
along n radius w norm-g g = handed_out (made 0 (scale n g (factor radius w norm-g)))

unfoldable pub cauchy_point : Kernel
unfolding along weighted norm
cauchy_point n radius g H = along n radius (weighted n g H g) (norm g) g
