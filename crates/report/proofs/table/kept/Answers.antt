-- `report::table::kept` meets its contract. Assumes nothing.
use Rattle.stream.proofs.Pieces.{puts_append}
use Rattle.report.proofs.table.kept.Goals as goal

pub returns : goal.returns
returns c = puts_append c.number.ensures c.number-2.ensures
