-- `leaves::lines::outcome` meets its contract. Assumes nothing.
use Rattle.stream.proofs.Pieces.{puts_one, puts_append}
use Rattle.leaves.proofs.lines.outcome.Goals as goal

pub returns-in-Ok : goal.returns-in-Ok
returns-in-Ok c = rw c.in-Ok.is (puts_append c.put_list.ensures (puts_one c.put_line_end.ensures))
