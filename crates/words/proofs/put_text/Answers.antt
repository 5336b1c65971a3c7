-- `words::put_text` meets its contract. Assumes nothing.
use Rattle.std.proofs.Common.{sym, ◌∙◌, arith, ◌≤◌, ◌+◌, length, refl}
use Rattle.std.proofs.lemmas.Slice.{put_mid-paste}
use Rattle.std.proofs.lemmas.Bool.{leb-true}
use Rattle.words.proofs.Laws.{placed_not, placed_paste}
use Rattle.words.proofs.put_text.Goals as goal

pub returns-then-fits-clause-bytes_after : goal.returns-then-fits-clause-bytes_after
returns-then-fits-clause-bytes_after c =
    let v = c.args in
    let there : v.at + length v.text.now ≤ length v.bytes.now = leb-true _ _ (cc) in
    put_mid-paste _ _ _ _ v.text.now (length v.text.now) c.copy_from_slice.ensures.after (omega arith) refl ∙ sym (placed_paste _ _ _ there)

pub returns-else-fits-clause-bytes_after : goal.returns-else-fits-clause-bytes_after
returns-else-fits-clause-bytes_after c = sym (placed_not _ _ _ (cc))
