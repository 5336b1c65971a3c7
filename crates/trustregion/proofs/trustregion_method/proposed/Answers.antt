-- `trustregion::trustregion_method::proposed` meets its contract. Assumes nothing.
use Rattle.trustregion.specs.Session.{proposal}
use Rattle.trustregion.proofs.trustregion_method.proposed.Goals as goal

pub returns : goal.returns
unfolding proposal
returns c = c.propose-outcome.ensures
