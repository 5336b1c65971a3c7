use mathlib.Core.Bool.{true}
use mathlib.Core.Path.{◌≡◌}
use Rattle.vectors.specs.Vector.{flat, all_finite}
use Rattle.sr1.specs.Session.{gained_row}
use Rattle.sr1.proofs.gain.Gain.rows_finite.Given as goal

abbrev pub invariant-loop-i : goal.invariant-loop-i
invariant-loop-i l = all_finite (flat l.i (gained_row l.self.n l.hessian l.self.z.now l.self.share)) ≡ true
