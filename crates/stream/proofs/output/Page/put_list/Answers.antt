-- `Page::put_list` meets its contract. Before each turn the numbers so far have been put behind the name. Assumes nothing.
use native.Mathlib.Omega.{arith}
use lib.Seq.{take_all}
use Rattle.stream.specs.Pieces.{none, one, spaced}
use Rattle.stream.proofs.Pieces.{spaced_more}
use Rattle.stream.proofs.output.Page.put_list.Goals as goal

pub loop-x-init : goal.loop-x-init
unfolding spaced
loop-x-init c = none

pub loop-x-preserved : goal.loop-x-preserved
loop-x-preserved c = spaced_more _ _ c.loop-x-test.true c.loop-x.invariant c.put_blank.ensures c.put_number.ensures

pub returns : goal.returns
returns c =
    let v = c.args.v in
    one c.put_text.ensures (rw (take_all c.loop-x.x-index v.now (omega arith)) at c.loop-x.invariant)
