use Rattle.vectors.specs.Vector.{at}
use Rattle.vectors.specs.Slots.{slot}
use Rattle.vectors.proofs.Slots.{Writing}
use Rattle.kernels.proofs.workspace.zip.Given as goal

abbrev pub invariant-loop-i : goal.invariant-loop-i
invariant-loop-i g l = Writing l.initial.w l.n l.to (λ i. g.op (at (slot l.initial.w l.n l.x) i) (at (slot l.initial.w l.n l.y) i)) l.w l.i
