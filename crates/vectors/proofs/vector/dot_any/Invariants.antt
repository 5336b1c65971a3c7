use Rattle.std.proofs.Common.{◌≡◌}
use Rattle.vectors.specs.Vector.{dot_to}
use Rattle.vectors.proofs.vector.dot_any.Given as goal

abbrev pub invariant-loop-i : goal.invariant-loop-i
invariant-loop-i l = l.sum ≡ dot_to l.a l.b l.i
