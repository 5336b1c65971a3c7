-- `kernels::dogleg::unconstrained` meets its contract. Assumes nothing.
use Rattle.kernels.specs.Dogleg.{towards}
use Rattle.kernels.proofs.dogleg.unconstrained.Goals as goal

pub returns : goal.returns
unfolding towards
returns c = rw c.dot_any.ensures at c.put_times.ensures
