-- `kernels::inverse::right_row` meets its contract. Assumes nothing.
use native.Mathlib.Nat.{add-sub_cancel_left}
use Rattle.kernels.proofs.Rows.{right_part, right_long}
use Rattle.kernels.proofs.inverse.right_row.Goals as goal

pub returns : goal.returns
returns c =
    rw add-sub_cancel_left (right_part c.args.w.now c.args.n c.args.i c.requires.0 c.requires.1, right_long c.args.w.now c.args.n c.args.i c.requires.0 c.requires.1)
