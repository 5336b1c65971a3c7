-- `report::table::verdict` meets its contract. Assumes nothing.
use Rattle.stream.proofs.Pieces.{puts_one, puts_append}
use Rattle.report.proofs.table.verdict.Goals as goal

pub returns : goal.returns
returns c = puts_append (rw (c.word.ensures, c.is_nan.ensures) at c.number.ensures) (puts_one c.put_line_end.ensures)
