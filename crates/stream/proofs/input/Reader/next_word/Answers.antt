-- `Reader::next_word` meets its contract. Assumes nothing.
use Rattle.std.proofs.lemmas.Result.{err_from_is_err_and}
use Rattle.stream.proofs.Found.{next_found, next_came, next_none}
use Rattle.stream.proofs.input.Reader.next_word.Goals.{then-self+in_ok-refill, else-self}
use Rattle.stream.proofs.input.Reader.next_word.Goals as goal

pub returns-in_err-refill : goal.returns-in_err-refill
returns-in_err-refill c =
    let same = err_from_is_err_and c.from_residual.result c.from_residual.ensures.1 in
    rw (same.1, same.2) (next_none c.if-self.true c.in_err-refill.ensures)

pub returns : goal.returns
returns c =
    elim c.if-self.branch [
      | then-self+in_ok-refill w ↦ next_came w.if-self.true w.in_ok-refill.ensures (rw w.self-is at c.word.ensures)
      | else-self w ↦ next_found w.if-self.false (rw w.self-is at c.word.ensures)
    ]
