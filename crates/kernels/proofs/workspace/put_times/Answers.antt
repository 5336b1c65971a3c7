use borrow.Author.Rules.{rules}
use Rattle.vectors.specs.Vector.{scale}
use Rattle.kernels.proofs.Parts.{puts_part}
use Rattle.kernels.proofs.workspace.put_times.Goals as goal

pub returns : goal.returns
unfolding scale
returns c = puts_part _ _ _ c.requires.0 _ _ _ (search rules) (search rules) (λ k h. c.loop-i.invariant k (search rules))
