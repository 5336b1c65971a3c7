-- `kernels::steihaug::lay` meets its contract. Assumes nothing.
use Rattle.std.proofs.lemmas.Result.{err_from_is_err_and}
use Rattle.kernels.proofs.Kernels.{reached_none}
use Rattle.kernels.proofs.Passes.{at_once, is_whole, in_passes}
use Rattle.kernels.proofs.steihaug.lay.Goals as goal

pub returns-then-norm-epsilon : goal.returns-then-norm-epsilon
returns-then-norm-epsilon c =
    at_once _ _ _ _ _ _ _ _ _ c.norm_any-norm.ensures c.start-rtr.ensures _ c.start-rtr.auto.w _ _ c.if-norm-epsilon.true c.settle.ensures

pub returns-in_err-end : goal.returns-in_err-end
returns-in_err-end c =
    let p = err_from_is_err_and c.from_residual.result c.from_residual.ensures.1 in
    rw (p.1, p.2) (reached_none _ _ _ _ (is_whole _ _ _ _ _ _ _ _ _ c.norm_any-norm.ensures c.start-rtr.ensures _ c.if-norm-epsilon.false c.in_err-end.ensures))

pub returns : goal.returns
returns c =
    in_passes _ _ _ _ _ _ _ _ _ c.norm_any-norm.ensures c.start-rtr.ensures
    _ c.if-norm-epsilon.false c.in_ok-end.ensures _ _ _ _ c.start-rtr.auto.w c.run.auto.w c.settle-2.ensures
