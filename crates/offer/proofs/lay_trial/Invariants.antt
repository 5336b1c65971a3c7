use Rattle.float.specs.Numbers.{◌⊕◌}
use Rattle.vectors.specs.Vector.{at}
use Rattle.vectors.specs.Slots.{slot}
use Rattle.vectors.proofs.Slots.{Writing}
use Rattle.offer.proofs.lay_trial.Given as goal

abbrev pub invariant-loop-i : goal.invariant-loop-i
invariant-loop-i l = Writing l.initial.w l.n 1 (λ j. at (slot l.initial.w l.n 0) j ⊕ at l.point j) l.w l.i
