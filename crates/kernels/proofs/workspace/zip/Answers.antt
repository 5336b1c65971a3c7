-- `kernels::workspace::zip` meets its contract. The loop's invariant: the first i numbers of the slot are the new ones. Assumes nothing.
use mathlib.Core.Path.{◌∙◌}
use borrow.Author.Rules.{rules}
use Rattle.kernels.specs.Workspace.{zip}
use Rattle.vectors.proofs.Slots.{writing_read, writing_more, writing_done}
use Rattle.kernels.proofs.workspace.zip.Goals as goal

pub loop-i-preserved : goal.loop-i-preserved
loop-i-preserved g c =
    let inv = c.loop-i.invariant in
    let h = c.loop-i-test.true in
    writing_more inv h (c.requires.1.1.1 _ _ _ c.f.ensures ∙ rw (writing_read inv c.args.x h, writing_read inv c.args.y h))

pub returns : goal.returns
unfolding zip
returns g c = writing_done c.loop-i.invariant (search rules)
