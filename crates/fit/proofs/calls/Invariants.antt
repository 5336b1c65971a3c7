use Rattle.fit.specs.Meaning.{Kept}
use Rattle.fit.proofs.Turns.{still}
use Rattle.fit.proofs.calls.Given as goal

abbrev pub invariant-loop-at : goal.invariant-loop-at
invariant-loop-at l = Kept l.initial.script l.initial.page l.script l.page

abbrev pub decreases-loop-at : goal.decreases-loop-at
decreases-loop-at l = still l.at.running l.script.left
