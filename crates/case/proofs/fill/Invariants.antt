use Prim.Native.Nat.{◌+◌}
use lib.ListN.{length}
use Rattle.vectors.proofs.Slots.{Writing}
use Rattle.case.specs.Case.{number}
use Rattle.case.proofs.fill.Given as goal

abbrev pub invariant-loop-i : goal.invariant-loop-i
invariant-loop-i l = Writing l.initial.out (length l.initial.out) 0 (λ j. number l.bytes (l.from + j)) l.out l.i
