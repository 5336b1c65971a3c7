-- `sr1::gain::Gain::write_row` meets its contract. The loop's invariant: the first j entries are the new ones. Assumes nothing.
use mathlib.Core.Path.{◌∙◌}
use borrow.Author.Rules.{rules}
use Rattle.vectors.proofs.Slots.{writing_none, writing_read, writing_more, writing_done}
use Rattle.sr1.specs.Session.{gained_row}
use Rattle.sr1.proofs.gain.Gain.write_row.Goals as goal

pub loop-j-init : goal.loop-j-init
unfolding gained_row
loop-j-init c = writing_none (search rules)

pub loop-j-preserved : goal.loop-j-preserved
loop-j-preserved c =
    let h = c.loop-j-test.true in
    writing_more c.loop-j.invariant h (c.entry.ensures ∙ rw (writing_read c.loop-j.invariant c.args.i h))

pub returns : goal.returns
unfolding gained_row
returns c = writing_done c.loop-j.invariant (search rules)
