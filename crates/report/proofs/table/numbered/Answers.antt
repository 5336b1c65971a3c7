-- `report::table::numbered` meets its contract. Assumes nothing.
use Rattle.stream.specs.Pieces.{one}
use Rattle.stream.proofs.Pieces.{puts_one}
use Rattle.report.proofs.table.numbered.Goals as goal

pub returns : goal.returns
returns c = one (rw c.margin.ensures at c.put_text.ensures) (one c.put_whole.ensures (puts_one c.put_text-2.ensures))
