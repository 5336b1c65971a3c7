-- `kernels::dogleg::lay` meets its contract. Assumes nothing.
use Rattle.std.proofs.lemmas.Result.{err_from_is_err_and}
use mathlib.Core.Path.{◌∙◌}
use Rattle.kernels.proofs.Doglegs.{dogleg_none, dogleg_made}
use Rattle.kernels.proofs.dogleg.lay.Goals as goal

pub returns-in_err-newton : goal.returns-in_err-newton
returns-in_err-newton c =
    let p = err_from_is_err_and c.from_residual.result c.from_residual.ensures.1 in
    rw (p.1, p.2) (dogleg_none _ _ _ _ _ _ _ c.in_err-newton.ensures)

pub returns : goal.returns
returns c =
    dogleg_made _ _ _ _ _ _ _ _ _ c.in_ok-newton.ensures c.step.ensures (c.step.auto.w ∙ c.newton.auto.w) c.settle.ensures
