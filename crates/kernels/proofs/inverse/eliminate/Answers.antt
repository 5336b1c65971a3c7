-- `kernels::inverse::eliminate` meets its contract. The loop's invariant: the first i rows are there. Assumes nothing.
use borrow.Author.Rules.{rules}
use Rattle.kernels.proofs.Rows.{laid_start, roomy_same}
use Rattle.kernels.proofs.Ends.{eliminates}
use Rattle.kernels.proofs.inverse.eliminate.Goals as goal

pub returns : goal.returns
returns c = eliminates _ _ _ _ _ c.pivot_bound.ensures (laid_start _ _ _ (λ k h. c.loop-i.invariant k (search rules)) (roomy_same c.requires.0 c.loop-i.auto.w)) c.columns.ensures
