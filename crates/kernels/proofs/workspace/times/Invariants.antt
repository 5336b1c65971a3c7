use Rattle.vectors.specs.Slots.{slot}
use Rattle.vectors.specs.Vector.{times_at}
use Rattle.vectors.proofs.Slots.{Writing}
use Rattle.kernels.proofs.workspace.times.Given as goal

abbrev pub invariant-loop-i : goal.invariant-loop-i
invariant-loop-i l = Writing l.initial.w l.n l.to (times_at l.n l.h (slot l.initial.w l.n l.x)) l.w l.i
