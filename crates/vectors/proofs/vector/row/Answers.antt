-- `vectors::vector::row` meets its contract. Assumes nothing.
use Rattle.std.proofs.Common.{sym}
use native.Mathlib.Nat.{add-sub_cancel_left}
use Rattle.vectors.specs.Slots.{slot}
use Rattle.vectors.proofs.Sizes.{square_true, row_good}
use Rattle.vectors.proofs.vector.row.Goals as goal

pub returns : goal.returns
unfolding slot
returns c = rw add-sub_cancel_left (sym (row_good _ _ _ (square_true _ _ (sym c.if-not-matrix.ensures)) c.if-n-i.false))
