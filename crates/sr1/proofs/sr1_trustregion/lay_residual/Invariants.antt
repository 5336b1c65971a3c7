use Rattle.vectors.proofs.Slots.{Writing}
use Rattle.sr1.proofs.Hessians.{residual_at}
use Rattle.sr1.proofs.sr1_trustregion.lay_residual.Given as goal

abbrev pub invariant-loop-i : goal.invariant-loop-i
invariant-loop-i l = Writing l.initial.w l.n 0 (residual_at l.n l.new_gradient l.gradient l.hessian l.step) l.w l.i
