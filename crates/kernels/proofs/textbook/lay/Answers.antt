-- `kernels::textbook::lay` meets its contract. Assumes nothing.
use Rattle.std.proofs.lemmas.Result.{err_from_is_err_and}
use mathlib.Core.Path.{◌∙◌}
use borrow.Author.Rules.{rules}
use Rattle.kernels.proofs.CauchyPoints.{cauchy_laid}
use Rattle.kernels.proofs.Doglegs.{between_none, between_made}
use Rattle.kernels.proofs.Textbooks.{as_cauchys, by_legs, inside, outsides}
use Rattle.kernels.proofs.textbook.lay.Goals as goal

pub returns-then-not-curvature : goal.returns-then-not-curvature
returns-then-not-curvature c =
    as_cauchys _ _ _ _ _ _ _ _ c.curvature-curvature.ensures c.if-not-curvature.true
    (cauchy_laid _ _ _ _ _ _ _ _ _ c.curvature-curvature.ensures c.norm_any.ensures c.lay_by.ensures)

pub returns-in_err-newton : goal.returns-in_err-newton
returns-in_err-newton c =
    let p = err_from_is_err_and c.from_residual.result c.from_residual.ensures.1 in
    rw (p.1, p.2) (by_legs _ _ _ _ _ _ _ _ c.curvature-curvature.ensures c.if-not-curvature.false (between_none _ _ _ _ _ _ _ _ c.in_err-newton.ensures))

pub settle_by-requires : goal.settle_by-requires
settle_by-requires c = (search rules, c.norm-norm.ensures)

pub returns-then-norm-problem : goal.returns-then-norm-problem
returns-then-norm-problem c =
    by_legs _ _ _ _ _ _ _ _ c.curvature-curvature.ensures c.if-not-curvature.false
    (between_made _ _ _ _ _ _ _ _ _ _ c.in_ok-newton.ensures (inside _ _ _ _ _ _ c.norm-norm.ensures c.if-norm-problem.true) c.newton.auto.w c.settle_by.ensures)

pub returns : goal.returns
returns c =
    by_legs _ _ _ _ _ _ _ _ c.curvature-curvature.ensures c.if-not-curvature.false
    (between_made _ _ _ _ _ _ _ _ _ _ c.in_ok-newton.ensures
    (outsides _ _ _ _ _ _ c.norm-norm.ensures _ _ c.if-norm-problem.false c.curvature-curvature.ensures c.outside.ensures)
    (c.outside.auto.w ∙ c.newton.auto.w) c.settle.ensures)
