-- `report::lines::put` meets its contract. Assumes nothing.
use Rattle.stream.specs.Pieces.{none}
use Rattle.stream.proofs.Pieces.{puts_one}
use Rattle.report.proofs.lines.put.Goals as goal

pub returns-in-Started : goal.returns-in-Started
returns-in-Started c = rw c.in-Started.is (puts_one c.put_text.ensures)

pub returns-in-Done : goal.returns-in-Done
returns-in-Done c = rw c.in-Done.is (puts_one c.put_text-in-Done.ensures)

pub returns-in-Taken : goal.returns-in-Taken
returns-in-Taken c = rw c.in-Taken.is (puts_one c.put_text-in-Taken.ensures)

pub returns-in-Changed : goal.returns-in-Changed
returns-in-Changed c = rw c.in-Changed.is none

pub returns-in-Bad : goal.returns-in-Bad
returns-in-Bad c = rw c.in-Bad.is (puts_one c.put_text-in-Bad.ensures)
