-- `sr1::sr1_trustregion::update` meets its contract. Assumes nothing.
use Rattle.vectors.proofs.Sizes.{failed, passed, was_right}
use Rattle.kernels.proofs.Kernels.{by_check}
use Rattle.sr1.proofs.Hessians.{kept, not_finite, written}
use Rattle.sr1.proofs.sr1_trustregion.update.Goals as goal

pub returns-then-not-updates : goal.returns-then-not-updates
returns-then-not-updates c = kept _ _ _ _ _ _ _ c.dot_any-q.ensures (failed c.updates.ensures c.if-not-updates.true) c.requires.2

pub returns-in_err-unless : goal.returns-in_err-unless
returns-in_err-unless c =
    let p = by_check _ _ _ _ c.from_residual.ensures.1 c.in_err-unless.ensures in
    rw p.0 (not_finite _ _ _ _ _ _ _ c.dot_any-q.ensures (passed c.updates.ensures c.if-not-updates.false) (failed c.rows_finite.ensures p.1))

pub returns : goal.returns
returns c =
    written _ _ _ _ _ _ _ c.dot_any-q.ensures (passed c.updates.ensures c.if-not-updates.false) _ (passed c.rows_finite.ensures (was_right _ _ c.in_ok-unless.ensures)) c.write_rows.ensures
