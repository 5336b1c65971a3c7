-- `kernels::workspace::norm` meets its contract. Assumes nothing.
use mathlib.Core.Path.{◌∙◌}
use Rattle.kernels.proofs.workspace.norm.Goals as goal

pub returns : goal.returns
returns c = c.norm_any.ensures ∙ rw c.part.ensures.0
