-- `Reader::held` meets its contract. Assumes nothing.
use Rattle.std.proofs.Common.{sym, arith, ap, ◌∙◌, Ok}
use Rattle.stream.proofs.Found.{held_there, held_not}
use Rattle.stream.proofs.input.Reader.held.Goals as goal

pub returns-then-saturating_sub-lt8 : goal.returns-then-saturating_sub-lt8
returns-then-saturating_sub-lt8 c = sym (held_not _ _ _ (omega (arith, c.saturating_sub.ensures)))

pub returns : goal.returns
returns c = ap Ok c.word_at.ensures ∙ sym (held_there _ _ _ (omega (arith, c.saturating_sub.ensures)))
