-- `Page::put_named` meets its contract. Assumes nothing.
use Rattle.stream.specs.Pieces.{one}
use Rattle.stream.proofs.Pieces.{puts_one}
use Rattle.stream.proofs.output.Page.put_named.Goals as goal

pub returns : goal.returns
returns c = one c.put_text.ensures (puts_one c.put_number.ensures)
