-- `steps::skip` is safe and ends: what is left falls. Assumes nothing.
use mathlib.Core.Path.{◌≡◌}
use lib.ListN.{length}
use Rattle.steps.proofs.skip.Given as goal

abbrev pub invariant-loop-left : goal.invariant-loop-left
invariant-loop-left l = length l.room ≡ length l.initial.room

abbrev pub decreases-loop-left : goal.decreases-loop-left
decreases-loop-left l = l.left
