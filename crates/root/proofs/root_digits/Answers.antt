-- `root::root_digits` meets its contract. The loop's invariant, `Taken`: q and r have taken in the leading pairs of digits, one a turn. Assumes nothing.
use mathlib.Core.Path.{subst}
use Prim.Native.Nat.{ℕ}
use native.Mathlib.Omega.{arith}
use Rattle.root.proofs.Taken.{Taken, digit_one, digit_zero, taken_all}
use Rattle.root.proofs.root_digits.Goals as goal
use Rattle.root.proofs.root_digits.Goals.{then-t-x, else-t-x}

pub loop-preserved : goal.loop-preserved
loop-preserved c =
    elim c.if-t-x.branch [
      | then-t-x w ↦ rw (w.q-is, w.r-is) (digit_one _ _ _ _ _ c.loop.invariant (omega arith) (omega arith))
      | else-t-x w ↦ rw (w.q-is, w.r-is) (digit_zero _ _ _ _ _ c.loop.invariant (omega arith) (omega arith))
    ]

pub returns : goal.returns
returns c = (
  taken_all _ _ _ _ (subst (λ (i : ℕ). Taken c.args.m c.loop.a c.loop.q c.loop.r i) (omega arith) c.loop.invariant),
  omega arith,
)
