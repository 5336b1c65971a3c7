-- `report::lines::proposed` meets its contract. Assumes nothing.
use Rattle.stream.specs.Pieces.{one}
use Rattle.stream.proofs.Pieces.{puts_one, puts_append}
use Rattle.report.proofs.lines.proposed.Goals as goal

pub returns : goal.returns
returns c = puts_append (puts_append (puts_append (one c.put_text.ensures (puts_one c.put_whole.ensures)) c.put_list.ensures) c.put_list-2.ensures) (puts_one c.put_line_end.ensures)
