use Rattle.std.proofs.Common.{◌≡◌, length}
use Rattle.vectors.specs.Vector.{dot_to, row, times_at}
use Rattle.vectors.proofs.Slots.{Writing}
use Rattle.vectors.proofs.vector.times_unchecked.Given as goal

abbrev pub invariant-loop-k : goal.invariant-loop-k
invariant-loop-k l = (l.part ≡ row l.n l.h l.i) × (length l.part ≡ l.n) × (l.total ≡ dot_to l.part l.d l.k)

abbrev pub invariant-loop-i : goal.invariant-loop-i
invariant-loop-i l = Writing l.initial.out l.n 0 (times_at l.n l.h l.d) l.out l.i
