-- `Reading::fill` meets its contract. Assumes nothing.
use Rattle.std.proofs.Common.{◌≡◌, arith}
use Rattle.fit.proofs.Words.{filling_none, filling_more, filling_whole, filling_over}
use Rattle.fit.proofs.reading.Reading.fill.Goals as goal

pub loop-count-init : goal.loop-count-init
loop-count-init c = filling_none _

pub loop-count-preserved : goal.loop-count-preserved
loop-count-preserved c = filling_more _ c.loop-count.invariant c.loop-count-test.true c.requires.1 c.in-Ok.ensures

pub returns-in-Err : goal.returns-in-Err
returns-in-Err c = filling_over c.loop-count.invariant c.loop-count-test.true c.in-Err.ensures

pub returns : goal.returns
returns c =
    let all : c.loop-count.count ≡ c.args.want = omega (arith, c.loop-count.auto.count-end c.requires.0) in
    filling_whole (rw all at c.loop-count.invariant)
