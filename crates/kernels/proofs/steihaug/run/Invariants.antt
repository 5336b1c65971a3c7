use mathlib.Core.Path.{◌≡◌}
use Prim.Native.Nat.{◌-◌, ◌≤◌}
use lib.ListN.{length}
use Rattle.kernels.specs.Steihaug.{state_in}
use Rattle.kernels.specs.Subproblem.{run_of}
use Rattle.kernels.proofs.steihaug.run.Given as goal

abbrev pub invariant-loop-passes : goal.invariant-loop-passes
invariant-loop-passes l = (l.passes ≤ l.limit) × (length l.w ≡ length l.initial.w) × (run_of l.problem l.small (l.limit - l.passes) l.passes (state_in l.w l.problem.n l.rtr) ≡ run_of l.problem l.small l.limit 0 (state_in l.initial.w l.problem.n l.first))

abbrev pub decreases-loop-passes : goal.decreases-loop-passes
decreases-loop-passes l = l.limit - l.passes
