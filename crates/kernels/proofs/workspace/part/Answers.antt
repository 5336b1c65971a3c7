-- `kernels::workspace::part` meets its contract. Assumes nothing.
use native.Mathlib.Nat.{add-sub_cancel_left}
use Rattle.vectors.specs.Slots.{slot}
use Rattle.vectors.proofs.Slots.{length_slot}
use Rattle.kernels.proofs.workspace.part.Goals as goal

pub returns : goal.returns
unfolding slot
returns c = (simp add-sub_cancel_left, simp add-sub_cancel_left (length_slot c.args.w.now c.args.n c.args.k c.requires))
