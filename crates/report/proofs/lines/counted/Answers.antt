-- `report::lines::counted` meets its contract. Assumes nothing.
use Rattle.stream.specs.Pieces.{none, one}
use Rattle.stream.proofs.Pieces.{puts_one}
use Rattle.report.proofs.lines.counted.Goals as goal

pub returns-then-tells_more : goal.returns-then-tells_more
returns-then-tells_more c = rw c.if-tells_more.true (one c.put_text.ensures (one c.put_whole.ensures (puts_one c.put_line_end.ensures)))

pub returns-else-tells_more : goal.returns-else-tells_more
returns-else-tells_more c = rw c.if-tells_more.false none
