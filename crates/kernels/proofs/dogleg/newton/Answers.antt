-- `kernels::dogleg::newton` meets its contract. Assumes nothing.
use Rattle.std.proofs.lemmas.Result.{err_from_is_err_and}
use Rattle.kernels.proofs.Doglegs.{no_newton, newtons}
use Rattle.kernels.proofs.dogleg.newton.Goals as goal

pub returns-in_err-eliminate : goal.returns-in_err-eliminate
returns-in_err-eliminate c =
    let p = err_from_is_err_and c.from_residual.result c.from_residual.ensures.1 in
    rw (p.1, p.2) (no_newton _ _ _ _ c.in_err-eliminate.ensures)

pub returns : goal.returns
returns c = newtons _ _ _ _ _ _ _ c.in_ok-eliminate.ensures c.inverse_times.ensures c.map.ensures
