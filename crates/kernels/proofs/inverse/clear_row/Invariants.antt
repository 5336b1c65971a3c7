use Rattle.float.specs.Numbers.{◌⊖◌, ◌⊗◌}
use Rattle.kernels.proofs.inverse.clear_row.Given as goal

abbrev pub ghost-zip : goal.ghost-zip
ghost-zip a = λ x y. x ⊖ a.f.0.now ⊗ y
