-- What the code's subproblem stands for in the definitions of the kernels. Definitions only.
use Rattle.std.specs.Prelude.{List, ℕ, Float}
use Rattle.vectors.specs.Slots.{slot}
use Rattle.vectors.specs.Refusal.{Answer}
use Rattle.kernels.specs.Kernel.{Kernel, Made}
use Rattle.kernels.specs.Steihaug.{State, Pass, valued, pass, run}
use Rattle.kernels.specs.declared.steihaug.Valued.{Valued}
use Rattle.kernels.specs.declared.subproblem.Subproblem.{Subproblem}

-- a kernel's answer to it
abbrev pub on : Kernel → Subproblem → Answer Made
on kernel p = kernel p.n p.radius p.gradient.now p.hessian.now

-- Steihaug's: a root with its model, over p and d of the scratch; a pass; all passes
abbrev pub valued_in : Subproblem → (w : List Float) → Float → Valued
valued_in p w = valued p.n p.gradient.now p.hessian.now (slot w p.n 0) (slot w p.n 2)

abbrev pub pass_of : Subproblem → (small : Float) → State → Pass
pass_of p small = pass p.n p.radius small p.gradient.now p.hessian.now

abbrev pub run_of : Subproblem → (small : Float) → (left k : ℕ) → State → Answer Made
run_of p small = run p.n p.radius small p.gradient.now p.hessian.now
