-- `sr1::sr1_trustregion::judge` meets its contract. Assumes nothing.
use Rattle.std.proofs.lemmas.Result.{err_from_is_err_and}
use Rattle.vectors.proofs.Sizes.{failed, passed, was_right}
use Rattle.kernels.proofs.Kernels.{by_check}
use Rattle.sr1.proofs.Ends.{renew_ready, count_ready, judge_unanswered, judge_far, judge_not_finite, judge_accepts, judge_rejects}
use Rattle.sr1.proofs.sr1_trustregion.judge.Goals as goal

pub returns-in_err-unless : goal.returns-in_err-unless
returns-in_err-unless c =
    let p = by_check _ _ _ _ c.from_residual.ensures.1 c.in_err-unless.ensures in
    rw p.0 (judge_unanswered _ _ _ _ _ _ _ _ _ _ _ (failed c.answered.ensures p.1))

pub returns-then-not-finite : goal.returns-then-not-finite
returns-then-not-finite c =
    judge_far _ _ _ _ _ _ _ _ _ _ _ (passed c.answered.ensures (was_right _ _ c.in_ok-unless.ensures)) _ _ c.fall_ratio-ratio.ensures c.next_radius-next.ensures
    (failed c.finite.ensures c.if-not-finite.true) _ c.clear.ensures

pub renew-requires : goal.renew-requires
renew-requires c =
    let a = c.args in
    renew_ready a.s.now a.n a.answer a.new_gradient.now a.point.now a.step.now a.trial.now a.gradient.now a.hessian.now a.scratch.now
    c.requires (passed c.answered.ensures (was_right _ _ c.in_ok-unless.ensures))

pub returns-in_err-renew : goal.returns-in_err-renew
returns-in_err-renew c =
    let p = err_from_is_err_and c.from_residual-in_err-renew.result c.from_residual-in_err-renew.ensures.1 in
    rw (p.1, p.2) (judge_not_finite _ _ _ _ _ _ _ _ _ _ _ (passed c.answered.ensures (was_right _ _ c.in_ok-unless.ensures)) _ _ c.fall_ratio-ratio.ensures c.next_radius-next.ensures
    (passed c.finite.ensures c.if-not-finite.false) _ _ c.in_err-renew.ensures.1 _ c.in_err-renew.ensures.0)

pub returns-then-s-ratio : goal.returns-then-s-ratio
returns-then-s-ratio c =
    judge_accepts _ _ _ _ _ _ _ _ _ _ _ (passed c.answered.ensures (was_right _ _ c.in_ok-unless.ensures)) _ _ c.fall_ratio-ratio.ensures c.next_radius-next.ensures
    (passed c.finite.ensures c.if-not-finite.false) _ _ c.in_ok-renew.ensures.1 c.in_ok-renew.ensures.0 _ c.counted-count.ensures _
    c.if-s-ratio.true c.requires _ _ c.copy.ensures c.copy-then-s-ratio.ensures c.moved-s.ensures

pub returns : goal.returns
returns c =
    judge_rejects _ _ _ _ _ _ _ _ _ _ _ (passed c.answered.ensures (was_right _ _ c.in_ok-unless.ensures)) _ _ c.fall_ratio-ratio.ensures c.next_radius-next.ensures
    (passed c.finite.ensures c.if-not-finite.false) _ _ c.in_ok-renew.ensures.1 c.in_ok-renew.ensures.0 _ c.counted-count.ensures _
    c.if-s-ratio.false c.moved-s-2.ensures

pub counted-count-requires : goal.counted-count-requires
counted-count-requires c =
    let a = c.args in
    count_ready a.s.now a.n a.answer a.new_gradient.now a.point.now a.step.now a.trial.now a.gradient.now a.hessian.now a.scratch.now c.requires
