use Rattle.std.proofs.Common.{◌≡◌}
use Rattle.vectors.specs.Vector.{dot_to, times}
use Rattle.vectors.proofs.vector.weighted_unchecked.Given as goal

abbrev pub invariant-loop-i : goal.invariant-loop-i
invariant-loop-i l = l.total ≡ dot_to l.a (times l.n l.h l.b) l.i
