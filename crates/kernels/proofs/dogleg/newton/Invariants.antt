use lib.Ieee.{neg}
use Rattle.float.specs.Numbers.{◌⊗◌}
use Rattle.float.specs.Constants.{one}
use Rattle.kernels.proofs.dogleg.newton.Given as goal

abbrev pub ghost-map : goal.ghost-map
ghost-map a = λ x. x ⊗ neg one
