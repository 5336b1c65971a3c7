-- `trustregion::trustregion_method::renew` meets its contract. Assumes nothing.
use Rattle.std.proofs.lemmas.Result.{err_from_is_err_and}
use Rattle.trustregion.proofs.Ends.{renews_not, renews}
use Rattle.trustregion.proofs.trustregion_method.renew.Goals as goal

pub returns-in_err-verdict : goal.returns-in_err-verdict
returns-in_err-verdict c =
    let p = err_from_is_err_and c.from_residual.result c.from_residual.ensures.1 in
    rw (p.1, p.2) (renews_not _ _ _ _ _ _ _ _ _ _ c.renewal_sized-sized.ensures c.sound-sound.ensures c.awaits_derivatives-in_turn.ensures c.both_finite-finite.ensures _ c.in_err-verdict.ensures)

pub returns : goal.returns
returns c =
    renews _ _ _ _ _ _ _ _ _ _ c.renewal_sized-sized.ensures c.sound-sound.ensures c.awaits_derivatives-in_turn.ensures c.both_finite-finite.ensures c.in_ok-verdict.ensures _ _ c.copy.ensures c.copy-2.ensures _ c.moved-s.ensures
