use mathlib.Core.Path.{◌≡◌}
use Prim.Native.Nat.{suc, ◌-◌, ◌<◌}
use Rattle.kernels.specs.Inverse.{rows_in, pivot_among, columns}
use Rattle.kernels.proofs.inverse.columns.Given as goal

abbrev pub invariant-loop-i : goal.invariant-loop-i
invariant-loop-i l = (l.p < l.n) × (l.p ≡ pivot_among (rows_in l.w l.n) l.j (l.i - suc l.j))

abbrev pub invariant-loop-j : goal.invariant-loop-j
invariant-loop-j l = columns l.bound l.n (l.n - l.j) l.j (rows_in l.w l.n) ≡ columns l.bound l.n l.n 0 (rows_in l.initial.w l.n)
