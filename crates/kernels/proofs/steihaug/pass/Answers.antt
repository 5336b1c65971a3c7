-- `kernels::steihaug::pass` meets its contract. Assumes nothing.
use Rattle.std.proofs.lemmas.Result.{err_from_is_err_and}
use mathlib.Core.Path.{refl}
use Rattle.kernels.proofs.Passes.{by_model_here, no_curvature, curvature}
use Rattle.kernels.proofs.steihaug.pass.Goals as goal

pub returns-in_err-tau : goal.returns-in_err-tau
returns-in_err-tau c =
    let p = err_from_is_err_and c.from_residual.result c.from_residual.ensures.1 in
    rw (p.1, p.2) (no_curvature _ _ _ _ _ _ _ _ _ _ c.times.ensures c.dot-dhd.ensures c.if-dhd.true
    (by_model_here _ _ _ _ _ _ c.roots_at-roots.ensures _ _ _ c.in_err-tau.ensures refl))

pub returns-then-dhd : goal.returns-then-dhd
returns-then-dhd c =
    no_curvature _ _ _ _ _ _ _ _ _ _ c.times.ensures c.dot-dhd.ensures c.if-dhd.true
    (by_model_here _ _ _ _ _ _ c.roots_at-roots.ensures _ _ _ c.in_ok-tau.ensures c.stop_at.ensures)

pub returns : goal.returns
returns c = curvature _ _ _ _ _ _ _ _ _ _ c.times.ensures c.dot-dhd.ensures c.if-dhd.false c.straight.ensures
