use Rattle.kernels.specs.Inverse.{rows_in, right_row}
use Rattle.kernels.proofs.Rows.{Laid}
use Rattle.kernels.proofs.inverse.hand_out.Given as goal

abbrev pub invariant-loop-i : goal.invariant-loop-i
invariant-loop-i l = Laid l.n 0 (right_row l.n (rows_in l.w l.n)) l.out l.i
