-- `report::table::trial` meets its contract. Assumes nothing.
use Rattle.stream.proofs.Pieces.{puts_append}
use Rattle.report.proofs.table.trial.Goals as goal

pub returns : goal.returns
returns c = puts_append c.numbered.ensures (puts_append c.column.ensures c.column-2.ensures)
