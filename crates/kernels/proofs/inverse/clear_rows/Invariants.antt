use mathlib.Core.Path.{◌≡◌}
use Prim.Native.Nat.{◌+◌}
use Rattle.vectors.specs.Slots.{slot}
use Rattle.kernels.specs.Inverse.{rows_in, cleared}
use Rattle.kernels.proofs.inverse.clear_rows.Given as goal

abbrev pub invariant-loop-i : goal.invariant-loop-i
invariant-loop-i l = (rows_in l.w l.n ≡ cleared l.n (rows_in l.initial.w l.n) l.j l.i) × (slot l.w (l.n + l.n) 0 ≡ slot l.initial.w (l.n + l.n) 0)
