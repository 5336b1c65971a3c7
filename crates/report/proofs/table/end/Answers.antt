-- `report::table::end` meets its contract. Assumes nothing.
use Rattle.stream.proofs.Pieces.{puts_one, puts_append}
use Rattle.report.proofs.table.end.Goals as goal

pub returns : goal.returns
returns c = puts_append c.kept.ensures (puts_one (rw c.waiting.ensures at c.put_text.ensures))
