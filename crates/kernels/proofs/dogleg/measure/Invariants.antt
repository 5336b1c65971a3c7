use Rattle.float.specs.Numbers.{◌⊖◌}
use Rattle.kernels.proofs.dogleg.measure.Given as goal

abbrev pub ghost-zip : goal.ghost-zip
ghost-zip a = λ b u. b ⊖ u
