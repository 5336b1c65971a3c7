use lib.ListN.{length}
use Rattle.vectors.specs.Vector.{at}
use Rattle.vectors.proofs.Slots.{Writing}
use Rattle.offer.proofs.lent.copy.Given as goal

abbrev pub invariant-loop-i : goal.invariant-loop-i
invariant-loop-i l = Writing l.initial.to (length l.from) 0 (at l.from) l.to l.i
