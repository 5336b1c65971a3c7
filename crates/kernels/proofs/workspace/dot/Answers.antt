-- `kernels::workspace::dot` meets its contract. Assumes nothing.
use mathlib.Core.Path.{◌∙◌}
use Rattle.kernels.proofs.workspace.dot.Goals as goal

pub returns : goal.returns
returns c = c.dot_any.ensures ∙ rw (c.part.ensures.0, c.part-2.ensures.0)
