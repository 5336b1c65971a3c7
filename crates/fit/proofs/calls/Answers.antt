-- `fit::calls` meets its contract: every turn that others follow has read a word. Assumes nothing.
use Rattle.fit.proofs.Turns.{turned_less, turned_kept, kept_still}
use Rattle.fit.proofs.calls.Goals as goal

pub loop-at-smaller : goal.loop-at-smaller
loop-at-smaller c = turned_less c.turn-at.ensures.turned c.loop-at-test.true

pub loop-at-preserved : goal.loop-at-preserved
loop-at-preserved c = kept_still c.loop-at.invariant (turned_kept c.turn-at.ensures.turned)
