-- `kernels::workspace::copy` meets its contract. Assumes nothing.
use borrow.Author.Rules.{rules}
use Rattle.kernels.proofs.Parts.{puts_copy}
use Rattle.kernels.proofs.workspace.copy.Goals as goal

pub returns : goal.returns
returns c = puts_copy _ _ _ c.requires.0 _ _ _ c.requires.1 (search rules) c.copy_within.ensures.after
