-- `case::lines::numbers` meets its contract. Before each turn the lines of the numbers so far have been put. Assumes nothing.
use native.Mathlib.Omega.{arith}
use lib.Seq.{take_all}
use Rattle.stream.specs.Pieces.{none}
use Rattle.case.specs.Lines.{number_lines}
use Rattle.case.proofs.Pieces.{numbers_more}
use Rattle.case.proofs.lines.numbers.Goals as goal

pub loop-x-init : goal.loop-x-init
unfolding number_lines
loop-x-init c = none

pub loop-x-preserved : goal.loop-x-preserved
loop-x-preserved c = numbers_more _ _ c.loop-x-test.true c.loop-x.invariant c.put_number.ensures c.put_line_end.ensures

pub returns : goal.returns
returns c = rw (take_all c.loop-x.x-index c.args.v.now (omega arith)) at c.loop-x.invariant
