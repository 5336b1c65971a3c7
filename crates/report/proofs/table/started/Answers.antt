-- `report::table::started` meets its contract. Assumes nothing.
use Rattle.stream.proofs.Pieces.{puts_one, puts_append}
use Rattle.report.proofs.table.started.Goals as goal

pub returns : goal.returns
returns c = puts_append c.kept.ensures (puts_one c.put_text.ensures)
