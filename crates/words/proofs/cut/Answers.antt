-- `words::cut` meets its contract. Assumes nothing.
use Rattle.std.proofs.Common.{◌≡◌, ◌∙◌, ◌++◌, drop, length}
use lib.ListN.{replicate}
use Rattle.std.specs.Int.{w64, from_le_bytes}
use Rattle.words.proofs.Laws.{le_word, cut_word}
use Rattle.words.proofs.cut.Goals as goal

pub returns : goal.returns
returns c =
    let bytes = c.args.bytes.now in
    let read : c.from_le_bytes.result ≡ from_le_bytes w64 (c.copy_from_slice.new.self ++ drop (length bytes) (replicate 8 0)) = c.from_le_bytes.ensures in
    rw c.copy_from_slice.ensures.after at read ∙ le_word (bytes ++ drop (length bytes) (replicate 8 0)) ∙ cut_word bytes c.requires
