-- `report::table::refused` meets its contract. Assumes nothing.
use Rattle.stream.specs.Pieces.{one}
use Rattle.stream.proofs.Pieces.{puts_one}
use Rattle.report.proofs.table.refused.Goals as goal

pub returns : goal.returns
returns c = one c.put_text.ensures (one (rw c.number.ensures at c.put_whole.ensures) (one c.put_text-2.ensures (puts_one (rw c.reason.ensures at c.put_text-3.ensures))))
