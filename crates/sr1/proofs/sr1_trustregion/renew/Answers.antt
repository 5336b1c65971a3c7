-- `sr1::sr1_trustregion::renew` meets its contract. Assumes nothing.
use mathlib.Core.Path.{◌∙◌, ap}
use Rattle.vectors.specs.Vector.{zeros}
use Rattle.offer.proofs.Offers.{first_part}
use Rattle.sr1.proofs.Hessians.{by_residual}
use Rattle.sr1.proofs.sr1_trustregion.renew.Goals as goal

pub returns : goal.returns
returns c =
    (by_residual _ _ _ _ _ _ _ _ _ _ (first_part _ _ ∙ c.lay_residual.ensures 0) c.update-done.ensures, c.clear.ensures ∙ ap zeros c.lay_residual.auto.w)
