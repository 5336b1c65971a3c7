-- `kernels::steihaug::run` meets its contract. Assumes nothing.
use Rattle.std.proofs.lemmas.Result.{err_from_is_err_and}
use mathlib.Core.Path.{refl}
use native.Mathlib.Nat.{sub-zero}
use borrow.Author.Rules.{rules}
use Rattle.kernels.proofs.Passes.{turned, done}
use Rattle.kernels.proofs.steihaug.run.Goals as goal

pub loop-passes-init : goal.loop-passes-init
loop-passes-init c = (search rules, refl, rw sub-zero)

pub loop-passes-preserved : goal.loop-passes-preserved
loop-passes-preserved c =
    (search rules, search rules, turned _ _ _ _ _ _ _ _ _ c.loop-passes.invariant.2 _ c.if-passes-limit.false (rw c.in-WentOn.is at c.in_ok-turn.ensures))

pub shape_of-w-then-passes-limit : goal.shape_of-w-then-passes-limit
shape_of-w-then-passes-limit c = c.loop-passes.invariant.1

pub returns-then-passes-limit : goal.returns-then-passes-limit
returns-then-passes-limit c = done _ _ _ _ _ _ _ _ _ c.loop-passes.invariant.2 _ c.if-passes-limit.true refl

pub returns-in-Boundary : goal.returns-in-Boundary
returns-in-Boundary c =
    turned _ _ _ _ _ _ _ _ _ c.loop-passes.invariant.2 _ c.if-passes-limit.false (rw c.in-Boundary.is at c.in_ok-turn.ensures)

pub returns-in-Inside : goal.returns-in-Inside
returns-in-Inside c =
    turned _ _ _ _ _ _ _ _ _ c.loop-passes.invariant.2 _ c.if-passes-limit.false (rw c.in-Inside.is at c.in_ok-turn.ensures)

pub returns-in_err-turn : goal.returns-in_err-turn
returns-in_err-turn c =
    let p = err_from_is_err_and c.from_residual.result c.from_residual.ensures.1 in
    rw (p.1, p.2) (turned _ _ _ _ _ _ _ _ _ c.loop-passes.invariant.2 _ c.if-passes-limit.false c.in_err-turn.ensures)
