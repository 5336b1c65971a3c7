-- `kernels::workspace::times` meets its contract. The loop's invariant: the first i numbers of the product are there. Assumes nothing.
use mathlib.Core.Path.{◌∙◌}
use borrow.Author.Rules.{rules}
use Rattle.vectors.specs.Vector.{times}
use Rattle.vectors.proofs.Sizes.{row_good}
use Rattle.vectors.proofs.Slots.{writing_more, writing_other, writing_done}
use Rattle.kernels.proofs.workspace.times.Goals as goal

pub loop-i-preserved : goal.loop-i-preserved
loop-i-preserved c =
    let inv = c.loop-i.invariant in
    let the_row = c.row.ensures ∙ row_good c.args.n c.args.h.now c.loop-i.i c.requires.2 c.loop-i-test.true in
    writing_more inv (search rules) (c.dot_any.ensures ∙ rw (the_row, c.part.ensures.0, writing_other inv c.args.x c.requires.3))

pub returns : goal.returns
unfolding times
returns c = writing_done c.loop-i.invariant (search rules)
