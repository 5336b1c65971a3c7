use Rattle.float.specs.Numbers.{◌⊕◌, ◌⊗◌}
use Rattle.kernels.proofs.textbook.outside.Given as goal

abbrev pub ghost-map : goal.ghost-map
ghost-map a = λ u. u ⊗ a.f.0.now

abbrev pub ghost-zip : goal.ghost-zip
ghost-zip a = λ u v. u ⊕ v ⊗ a.f.0.now
