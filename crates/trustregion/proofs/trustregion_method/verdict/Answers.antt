-- `trustregion::trustregion_method::verdict` meets its contract. Assumes nothing.
use Rattle.std.proofs.lemmas.Result.{err_from_is_err_and}
use Rattle.trustregion.proofs.Ends.{judges_not, judge_ready, judges_out_of_turn, judges_in_turn}
use Rattle.trustregion.proofs.trustregion_method.verdict.Goals as goal

pub returns-in_err-verdict : goal.returns-in_err-verdict
returns-in_err-verdict c =
    let p = err_from_is_err_and c.from_residual.result c.from_residual.ensures.1 in
    rw (p.1, p.2) (judges_not _ _ _ _ _ _ _ c.vectors-sized.ensures c.sound-sound.ensures _ c.in_err-verdict.ensures)

pub returns-in_err-promise : goal.returns-in_err-promise
returns-in_err-promise c =
    let p = err_from_is_err_and c.from_residual-in_err-promise.result c.from_residual-in_err-promise.ensures.1 in
    rw (p.1, p.2) (judges_out_of_turn _ _ _ _ _ _ _ c.vectors-sized.ensures c.sound-sound.ensures c.in_ok-verdict.ensures _ c.in_err-promise.ensures)

pub judge-requires : goal.judge-requires
judge-requires c =
    let a = c.args in
    judge_ready a.s.now a.n a.cost a.point.now a.trial.now _ _ c.vectors-sized.ensures c.sound-sound.ensures c.in_ok-verdict.ensures

pub returns : goal.returns
returns c = judges_in_turn _ _ _ _ _ _ _ c.vectors-sized.ensures c.sound-sound.ensures c.in_ok-verdict.ensures _ _ _ c.in_ok-promise.ensures c.judge.ensures
