use mathlib.Core.Path.{◌≡◌}
use Prim.Native.Nat.{ℕ, ◌<◌}
use Rattle.float.specs.Numbers.{◌⊗◌}
use Rattle.vectors.specs.Vector.{at}
use Rattle.kernels.proofs.workspace.put_times.Given as goal

abbrev pub invariant-loop-i : goal.invariant-loop-i
invariant-loop-i l = (k : ℕ) → k < l.i → at l.x-items k ≡ at l.v k ⊗ l.a
