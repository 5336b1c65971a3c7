use Prim.Native.Nat.{◌+◌}
use Rattle.vectors.specs.Vector.{tab}
use Rattle.kernels.specs.Inverse.{start_entry}
use Rattle.kernels.proofs.Rows.{Laid}
use Rattle.kernels.proofs.inverse.eliminate.Given as goal

abbrev pub invariant-loop-i : goal.invariant-loop-i
invariant-loop-i l = Laid (l.n + l.n) 4 (λ k. tab (l.n + l.n) (start_entry l.n l.h k)) l.w l.i
