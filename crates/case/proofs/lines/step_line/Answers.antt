-- `case::lines::step_line` meets its contract. Assumes nothing.
use Rattle.stream.specs.Pieces.{one}
use Rattle.stream.proofs.Pieces.{puts_one}
use Rattle.case.proofs.lines.step_line.Goals as goal

pub returns : goal.returns
returns c = one c.put_text.ensures (one c.put_whole.ensures (one c.put_blank.ensures (one c.put_whole-2.ensures (puts_one c.put_line_end.ensures))))
