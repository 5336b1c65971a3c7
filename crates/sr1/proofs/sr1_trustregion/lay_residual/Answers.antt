-- `sr1::sr1_trustregion::lay_residual` meets its contract. The loop's invariant: the first i numbers of z are there. Assumes nothing.
use mathlib.Core.Path.{◌≡◌, ◌∙◌}
use borrow.Author.Rules.{rules}
use Rattle.vectors.specs.Vector.{row}
use Rattle.vectors.proofs.Sizes.{row_good}
use Rattle.vectors.proofs.Slots.{filling_more, writing_done}
use Rattle.sr1.proofs.Hessians.{residual_is}
use Rattle.sr1.proofs.sr1_trustregion.lay_residual.Goals as goal

pub loop-i-preserved : goal.loop-i-preserved
loop-i-preserved c =
    let the_row : let a = c.args in c.row.result.now ≡ row a.n a.hessian.now c.loop-i.i = c.row.ensures ∙ row_good _ _ _ c.requires.1 c.loop-i-test.true in
    filling_more c.loop-i.invariant c.loop-i-test.true (rw (c.dot_any.ensures, the_row))

pub returns : goal.returns
returns c = rw (residual_is _ _ _ _ _) at (writing_done c.loop-i.invariant (search rules))
