-- `words::put_word` meets its contract. Assumes nothing.
use Rattle.std.proofs.Common.{◌∙◌}
use Rattle.words.specs.Words.{bytes_of}
use Rattle.words.proofs.Laws.{le_bytes}
use Rattle.words.proofs.put_word.Goals as goal

pub returns-clause-bytes_after : goal.returns-clause-bytes_after
unfolding bytes_of
returns-clause-bytes_after c = rw (c.to_le_bytes.ensures ∙ le_bytes c.args.word) at c.put_text.ensures.bytes_after
