-- `Page::put_refused` meets its contract. Assumes nothing.
use Rattle.stream.specs.Pieces.{one}
use Rattle.stream.proofs.Pieces.{puts_one}
use Rattle.stream.proofs.output.Page.put_refused.Goals as goal

pub returns : goal.returns
returns c = one c.put_text.ensures (one c.put_whole.ensures (puts_one c.put_line_end.ensures))
