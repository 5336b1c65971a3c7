-- `fit::opened` meets its contract. Assumes nothing.
use Rattle.stream.specs.Pieces.{text}
use Rattle.stream.proofs.Pieces.{puts_one}
use Rattle.fit.proofs.Pages.{puts_same}
use Rattle.fit.proofs.Turns.{kept_by}
use Rattle.fit.proofs.opened.Goals as goal

pub returns-in_default : goal.returns-in_default
returns-in_default c = kept_by (puts_same (puts_one {p = text _} c.put_text.ensures))
