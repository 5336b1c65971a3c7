use Rattle.kernels.specs.Inverse.{rows_in, inverse_times_at}
use Rattle.vectors.proofs.Slots.{Writing}
use Rattle.kernels.proofs.inverse.inverse_times.Given as goal

abbrev pub invariant-loop-i : goal.invariant-loop-i
invariant-loop-i l = Writing l.initial.w l.n l.to (inverse_times_at l.n (rows_in l.initial.w l.n) l.g) l.w l.i
