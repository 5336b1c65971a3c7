-- `station::Session::renew` meets its contract. Assumes nothing.
use Rattle.station.specs.Lists.{lent}
use Rattle.station.proofs.Performing.{trust_region_renewed}
use Rattle.station.proofs.Session.renew.Goals as goal

pub returns-in-TrustRegion-clause-performs : goal.returns-in-TrustRegion-clause-performs
returns-in-TrustRegion-clause-performs c =
    let a = c.args in
    rw c.in-TrustRegion.is (trust_region_renewed _ _ _ (lent a.place.now a.proposal.now a.scratch.now) a.n a.answers.gradient.now a.answers.hessian.now c.answer_derivatives.ensures)
