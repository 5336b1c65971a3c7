-- `kernels::inverse::start_row` meets its contract. The loop's invariant: the first k numbers of both halves are there. Assumes nothing.
use borrow.Author.Rules.{rules}
use Rattle.kernels.proofs.Parts.{puts_part}
use Rattle.kernels.proofs.Rows.{row_room, starts}
use Rattle.kernels.proofs.inverse.start_row.Goals as goal

pub returns : goal.returns
returns c =
    let a = c.args in
    let inv = c.loop-k.invariant in
    puts_part _ _ _ (row_room c.requires.0 a.i c.requires.1) _ _ _ (search rules) (search rules)
    (starts a.n a.i a.h.now c.loop-k.row (λ k h. inv.0 k (search rules)) (λ k h. inv.1 k (search rules)))
