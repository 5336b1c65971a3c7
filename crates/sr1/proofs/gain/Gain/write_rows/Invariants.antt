use Rattle.sr1.proofs.Hessians.{Gaining}
use Rattle.sr1.proofs.gain.Gain.write_rows.Given as goal

abbrev pub invariant-loop-i : goal.invariant-loop-i
invariant-loop-i l = Gaining l.self.n l.initial.hessian l.self.z.now l.self.share l.hessian l.i
