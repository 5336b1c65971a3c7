-- `words::word_at` meets its contract. Assumes nothing.
use Rattle.std.proofs.Common.{◌∙◌, take, length, arith, ◌≤◌, ap, sym}
use lib.Seq.{take_all, take-take}
use Rattle.words.specs.Words.{word_of, word_at}
use Rattle.words.proofs.Laws.{le_word}
use Rattle.words.proofs.word_at.Goals as goal

pub returns-in-Some : goal.returns-in-Some
unfolding word_at
returns-in-Some c =
    let eight = c.in-Some.ensures.cases.same ∙ ap (take 8) c.rest-rest.ensures in
    c.from_le_bytes.ensures ∙ le_word c.in-Some.word.now ∙ ap word_of (rw eight (take-take 8 8 _ (omega arith)))

pub returns-in-None : goal.returns-in-None
unfolding word_at
returns-in-None c =
    let few : length c.rest-rest.result.now ≤ 8 = omega (arith, c.in-None.ensures.cases) in
    c.cut.ensures ∙ ap word_of (sym (take_all 8 c.rest-rest.result.now few) ∙ ap (take 8) c.rest-rest.ensures)
