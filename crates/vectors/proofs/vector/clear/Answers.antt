-- `vectors::vector::clear` meets its contract. Assumes nothing.
use Rattle.std.proofs.Common.{◌∙◌}
use Rattle.vectors.proofs.Vectors.{zeros_again}
use Rattle.vectors.proofs.vector.clear.Goals as goal

pub returns : goal.returns
returns c = c.fill.ensures.after (λ y e. e) ∙ zeros_again _
