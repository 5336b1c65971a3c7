-- `report::lines::ended` meets its contract. Assumes nothing.
use Rattle.stream.proofs.Pieces.{puts_one, puts_append}
use Rattle.report.proofs.lines.ended.Goals as goal

pub returns : goal.returns
returns c = puts_append (puts_append (puts_append c.standing.ensures c.lists.ensures) (puts_one c.put_line_end.ensures)) c.counted.ensures
