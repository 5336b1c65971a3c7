use mathlib.Core.Path.{◌≡◌}
use Rattle.vectors.specs.Vector.{tab, all_finite}
use Rattle.sr1.specs.Session.{gained_at}
use Rattle.sr1.proofs.gain.Gain.row_finite.Given as goal

abbrev pub invariant-loop-j : goal.invariant-loop-j
invariant-loop-j l = l.all ≡ all_finite (tab l.j (gained_at l.self.n l.hessian l.self.z.now l.self.share l.i))
