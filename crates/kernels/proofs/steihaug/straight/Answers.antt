-- `kernels::steihaug::straight` meets its contract. Assumes nothing.
use Rattle.std.proofs.lemmas.Result.{err_from_is_err_and}
use mathlib.Core.Path.{refl}
use Rattle.kernels.proofs.Passes.{put_ahead, put_turned, forward_here, onward_here, outside, small_enough, not_yet}
use Rattle.kernels.proofs.steihaug.straight.Goals as goal

pub returns-in_err-tau : goal.returns-in_err-tau
returns-in_err-tau c =
    let p = err_from_is_err_and c.from_residual.result c.from_residual.ensures.1 in
    rw (p.1, p.2) (outside _ _ _ _ _ _ _ _ (put_ahead _ _ _ 6 0 2 _ c.zip.ensures) c.norm.ensures _ c.if-norm-radius.true
    (forward_here _ _ _ _ _ _ c.roots_at-roots.ensures c.in_err-tau.ensures refl))

pub returns-then-norm-radius : goal.returns-then-norm-radius
returns-then-norm-radius c =
    outside _ _ _ _ _ _ _ _ (put_ahead _ _ _ 6 0 2 _ c.zip.ensures) c.norm.ensures _ c.if-norm-radius.true
    (forward_here _ _ _ _ _ _ c.roots_at-roots.ensures c.in_ok-tau.ensures c.stop_at.ensures)

pub returns-then-norm-small : goal.returns-then-norm-small
returns-then-norm-small c =
    small_enough _ _ _ _ _ _ _ _ (put_ahead _ _ _ 6 0 2 _ c.zip.ensures) c.norm.ensures
    _ _ c.if-norm-radius.false (put_ahead _ _ _ 1 1 3 _ c.zip-2.ensures) c.norm-2.ensures
    c.if-norm-small.true

pub returns : goal.returns
returns c =
    not_yet _ _ _ _ _ _ _ _ (put_ahead _ _ _ 6 0 2 _ c.zip.ensures) c.norm.ensures
    _ _ c.if-norm-radius.false (put_ahead _ _ _ 1 1 3 _ c.zip-2.ensures) c.norm-2.ensures
    _ c.if-norm-small.false
    (onward_here _ _ _ _ _ _ c.dot-ss.ensures (put_turned _ _ _ 2 1 2 _ c.zip-3.ensures) c.copy.ensures)
