use Rattle.vectors.proofs.Slots.{Writing}
use Rattle.sr1.specs.Session.{gained_at}
use Rattle.sr1.proofs.gain.Gain.write_row.Given as goal

abbrev pub invariant-loop-j : goal.invariant-loop-j
invariant-loop-j l = Writing l.initial.hessian l.self.n l.i (gained_at l.self.n l.initial.hessian l.self.z.now l.self.share l.i) l.hessian l.j
