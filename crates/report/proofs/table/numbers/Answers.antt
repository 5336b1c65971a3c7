-- `report::table::numbers` meets its contract. Before each turn the lines of the numbers so far have been put. Assumes nothing.
use Rattle.std.proofs.Common.{arith, take_all}
use Rattle.stream.specs.Pieces.{none, one}
use Rattle.stream.proofs.Pieces.{puts_one, puts_append}
use Rattle.report.specs.Table.{number_lines}
use Rattle.report.proofs.Columns.{lines_more}
use Rattle.report.proofs.table.numbers.Goals as goal

pub loop-x-init : goal.loop-x-init
unfolding number_lines
loop-x-init c = none

pub loop-x-preserved : goal.loop-x-preserved
loop-x-preserved c = lines_more _ _ c.loop-x-test.true c.loop-x.invariant (puts_append c.number.ensures (puts_one c.put_line_end.ensures))

pub returns : goal.returns
returns c = one c.put_text.ensures (rw (take_all c.loop-x.x-index c.args.point.now (omega arith)) at c.loop-x.invariant)
