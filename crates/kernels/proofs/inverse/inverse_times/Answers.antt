-- `kernels::inverse::inverse_times` meets its contract. The loop's invariant: the first i numbers of the product are there. Assumes nothing.
use mathlib.Core.Path.{◌∙◌}
use borrow.Author.Rules.{rules}
use Rattle.kernels.specs.Inverse.{inverse_times}
use Rattle.vectors.proofs.Slots.{writing_more, writing_done}
use Rattle.kernels.proofs.Rows.{low_writing}
use Rattle.kernels.proofs.inverse.inverse_times.Goals as goal

pub loop-i-preserved : goal.loop-i-preserved
loop-i-preserved c =
    let inv = c.loop-i.invariant in
    writing_more inv c.loop-i-test.true (c.dot_any.ensures ∙ rw (c.right_row.ensures.0, low_writing c.requires.1 inv))

pub returns : goal.returns
unfolding inverse_times
returns c = writing_done c.loop-i.invariant (search rules)
