-- `Page::put_number` meets its contract. Assumes nothing.
use mathlib.Core.Path.{◌∙◌}
use Rattle.words.proofs.Laws.{length_hex, placed_all}
use Rattle.stream.proofs.output.Page.put_number.Goals as goal

pub returns : goal.returns
returns c =
    let text = c.put_hex.ensures.bytes_after ∙ placed_all _ _ (length_hex 16 _) in
    rw (text, c.bits_of.ensures) at c.put_text.ensures
