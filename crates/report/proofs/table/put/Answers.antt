-- `report::table::put` meets its contract. Assumes nothing.
use Rattle.stream.specs.Pieces.{none}
use Rattle.stream.proofs.Pieces.{puts_one, puts_append}
use Rattle.report.proofs.table.put.Goals as goal

pub returns-in-Done : goal.returns-in-Done
returns-in-Done c = rw c.in-Done.is (puts_one c.put_text.ensures)

pub returns-in-Proposed : goal.returns-in-Proposed
returns-in-Proposed c = rw c.in-Proposed.is none

pub returns-in-Judged : goal.returns-in-Judged
returns-in-Judged c = rw c.in-Judged.is (puts_append c.trial.ensures c.verdict.ensures)

pub returns-in-Taken : goal.returns-in-Taken
returns-in-Taken c = rw c.in-Taken.is none

pub returns-in-Changed : goal.returns-in-Changed
returns-in-Changed c = rw c.in-Changed.is (puts_one c.put_text-in-Changed.ensures)

pub returns-in-Ended : goal.returns-in-Ended
returns-in-Ended c = rw c.in-Ended.is (puts_append c.end.ensures c.numbers.ensures)

pub returns-in-Bad : goal.returns-in-Bad
returns-in-Bad c = rw c.in-Bad.is (puts_one c.put_text-in-Bad.ensures)
