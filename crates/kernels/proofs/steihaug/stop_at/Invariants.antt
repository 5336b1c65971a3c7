use Rattle.float.specs.Numbers.{◌⊕◌, ◌⊗◌}
use Rattle.kernels.proofs.steihaug.stop_at.Given as goal

abbrev pub ghost-zip : goal.ghost-zip
ghost-zip a = λ p d. p ⊕ d ⊗ a.f.0.now
