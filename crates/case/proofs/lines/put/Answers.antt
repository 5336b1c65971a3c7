-- `case::lines::put` meets its contract. Assumes nothing.
use Rattle.stream.proofs.Pieces.{puts_append}
use Rattle.case.proofs.lines.put.Goals as goal

pub returns-in-Ok : goal.returns-in-Ok
returns-in-Ok c = rw (c.in-Ok.is, ← c.first.ensures) (puts_append c.step_line.ensures c.numbers.ensures)
