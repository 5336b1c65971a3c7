use mathlib.Core.Bool.{cond}
use mathlib.Core.Path.{◌≡◌}
use Prim.Native.Nat.{ℕ, ◌+◌, ◌*◌, ◌<◌}
use lib.Dec.{eqb}
use Rattle.float.specs.Constants.{nought, one}
use Rattle.vectors.specs.Vector.{at}
use Rattle.kernels.proofs.inverse.start_row.Given as goal

abbrev pub invariant-loop-k : goal.invariant-loop-k
invariant-loop-k l = ((j : ℕ) → j < l.k → at l.row j ≡ at l.h (l.i * l.n + j)) × ((j : ℕ) → j < l.k → at l.row (l.n + j) ≡ cond (eqb j l.i) one nought)
