use lib.ListN.{length}
use Rattle.vectors.proofs.Slots.{Writing}
use Rattle.script.specs.Places.{number}
use Rattle.script.proofs.places.fill.Given as goal

abbrev pub invariant-loop-i : goal.invariant-loop-i
invariant-loop-i l = Writing l.initial.out (length l.initial.out) 0 (number l.words) l.out l.i
