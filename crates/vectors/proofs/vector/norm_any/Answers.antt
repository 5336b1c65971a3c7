-- `vectors::vector::norm_any` meets its contract. Assumes nothing.
use mathlib.Core.Path.{◌∙◌, ap}
use Rattle.root.specs.Root.{root}
use Rattle.vectors.specs.Vector.{norm}
use Rattle.vectors.proofs.vector.norm_any.Goals as goal

pub returns : goal.returns
unfolding norm
returns c = c.root.ensures ∙ ap root c.dot_any.ensures
