-- `kernels::kernel::lent` meets its contract. Assumes nothing.
use mathlib.Core.Path.{◌∙◌, ap}
use Rattle.vectors.specs.Refusal.{checked}
use Rattle.vectors.specs.declared.refusal.Refusal.TheVariants.{Size}
use Rattle.kernels.proofs.Kernels.{lent_right}
use Rattle.kernels.proofs.kernel.lent.Goals as goal

pub returns-clause-right : goal.returns-clause-right
returns-clause-right c = lent_right _ _ _ _ _ _ (c.unless.ensures ∙ ap (checked Size) c.sized.ensures)
