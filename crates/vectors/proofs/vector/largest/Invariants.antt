use Rattle.std.proofs.Common.{◌≡◌}
use lib.Ieee.{binary64, to_bits}
use Rattle.vectors.specs.Vector.{largest_to}
use Rattle.vectors.proofs.vector.largest.Given as goal

abbrev pub invariant-loop-x : goal.invariant-loop-x
invariant-loop-x l = l.top ≡ to_bits binary64 (largest_to l.v l.x-index)
