-- How far the model's promise was kept. Definitions only.
use Rattle.std.specs.Prelude.{Float}
use Rattle.float.specs.Numbers.{◌⊖◌, ◌⊘◌}

-- (f − F)/(m0 − m)
abbrev pub reduction_ratio : (f F m0 m : Float) → Float
reduction_ratio f F m0 m = (f ⊖ F) ⊘ (m0 ⊖ m)
