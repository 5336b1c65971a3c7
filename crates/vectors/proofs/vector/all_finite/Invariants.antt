use Rattle.std.proofs.Common.{◌≡◌, ◌&&◌, drop}
use Rattle.vectors.specs.Vector.{all_finite}
use Rattle.vectors.proofs.vector.all_finite.Given as goal

abbrev pub invariant-loop-x : goal.invariant-loop-x
invariant-loop-x l = (l.all && all_finite (drop l.x-index l.v)) ≡ all_finite l.v
