-- `trustregion::trustregion_method::judge` meets its contract. Assumes nothing.
use Rattle.vectors.proofs.Sizes.{failed, passed, was_right}
use Rattle.kernels.proofs.Kernels.{by_check}
use Rattle.trustregion.proofs.Ends.{judge_unanswered, judge_far, judge_accepts, judge_rejects}
use Rattle.trustregion.proofs.trustregion_method.judge.Goals as goal

pub returns-in_err-unless : goal.returns-in_err-unless
returns-in_err-unless c =
    let p = by_check _ _ _ _ c.from_residual.ensures.1 c.in_err-unless.ensures in
    rw p.0 (judge_unanswered _ _ _ _ _ (failed c.answered.ensures p.1))

pub returns-in_err-unless-2 : goal.returns-in_err-unless-2
returns-in_err-unless-2 c =
    let p = by_check _ _ _ _ c.from_residual-in_err-unless-2.ensures.1 c.in_err-unless-2.ensures in
    rw p.0 (judge_far _ _ _ _ _ (passed c.answered.ensures (was_right _ _ c.in_ok-unless.ensures)) _ _ c.reduction_ratio-ratio.ensures c.next_radius-next.ensures (failed c.finite.ensures p.1))

pub returns-then-s-ratio : goal.returns-then-s-ratio
returns-then-s-ratio c =
    judge_accepts _ _ _ _ _ (passed c.answered.ensures (was_right _ _ c.in_ok-unless.ensures)) _ _ c.reduction_ratio-ratio.ensures c.next_radius-next.ensures
    (passed c.finite.ensures (was_right _ _ c.in_ok-unless-2.ensures)) _ c.counted-count.ensures _ c.if-s-ratio.true c.requires.0 _ c.copy.ensures c.moved-s.ensures

pub returns : goal.returns
returns c =
    judge_rejects _ _ _ _ _ (passed c.answered.ensures (was_right _ _ c.in_ok-unless.ensures)) _ _ c.reduction_ratio-ratio.ensures c.next_radius-next.ensures
    (passed c.finite.ensures (was_right _ _ c.in_ok-unless-2.ensures)) _ c.counted-count.ensures _ c.if-s-ratio.false c.moved-s-2.ensures

pub counted-count-requires : goal.counted-count-requires
counted-count-requires c = c.requires.1
