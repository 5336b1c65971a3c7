-- `report::lines::standing` meets its contract. Assumes nothing.
use Rattle.stream.proofs.Pieces.{puts_append}
use Rattle.report.proofs.lines.standing.Goals as goal

pub returns : goal.returns
returns c = puts_append (puts_append c.phase.ensures c.put_named.ensures) c.put_named-2.ensures
