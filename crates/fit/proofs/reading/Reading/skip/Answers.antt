-- `Reading::skip` meets its contract. Assumes nothing.
use Rattle.std.proofs.Common.{arith}
use Rattle.fit.proofs.Words.{passing_none, passing_more, fewer, passed_by}
use Rattle.fit.proofs.reading.Reading.skip.Goals as goal

pub loop-self-init : goal.loop-self-init
loop-self-init c = passing_none

pub loop-self-smaller : goal.loop-self-smaller
loop-self-smaller c = fewer _ _ _ c.next.ensures c.loop-self-test.true

pub loop-self-preserved : goal.loop-self-preserved
loop-self-preserved c = passing_more c.loop-self.invariant c.loop-self-test.true _ c.next.ensures

pub returns : goal.returns
returns c = passed_by c.loop-self.invariant (omega (arith, c.loop-self-test.false))
