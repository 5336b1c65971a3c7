-- `report::lines::judged` meets its contract. Assumes nothing.
use Rattle.stream.proofs.Pieces.{puts_one, puts_append}
use Rattle.report.proofs.lines.judged.Goals as goal

pub returns : goal.returns
returns c = puts_append (rw c.verdict.ensures at c.put_named.ensures) (puts_append c.put_named-2.ensures (puts_one c.put_line_end.ensures))
