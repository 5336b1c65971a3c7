use Rattle.float.specs.Numbers.{◌⊘◌}
use Rattle.kernels.proofs.inverse.take_pivot.Given as goal

abbrev pub ghost-map : goal.ghost-map
ghost-map a = λ x. x ⊘ a.f.0.now
