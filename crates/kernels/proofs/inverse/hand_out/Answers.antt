-- `kernels::inverse::hand_out` meets its contract. The loop's invariant: the first i rows are handed out. Assumes nothing.
use mathlib.Core.Path.{◌∙◌}
use borrow.Author.Rules.{rules}
use Rattle.kernels.proofs.Rows.{laid_flat}
use Rattle.kernels.proofs.inverse.hand_out.Goals as goal

pub returns : goal.returns
returns c = laid_flat _ _ _ (λ k h. c.loop-i.invariant k (search rules)) (c.loop-i.auto.out ∙ c.requires.1)
