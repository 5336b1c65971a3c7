-- `station::Session::propose` meets its contract. Assumes nothing.
use Rattle.station.specs.Lists.{lent}
use Rattle.station.proofs.Performing.{trust_region_proposed, sr1_proposed}
use Rattle.station.proofs.Session.propose.Goals as goal

pub returns-in-TrustRegion-clause-performs : goal.returns-in-TrustRegion-clause-performs
returns-in-TrustRegion-clause-performs c =
    let a = c.args in
    rw c.in-TrustRegion.is (trust_region_proposed _ _ _ (lent a.place.now a.proposal.now a.scratch.now) a.n c.propose.ensures)

pub returns-in-Sr1-clause-performs : goal.returns-in-Sr1-clause-performs
returns-in-Sr1-clause-performs c =
    let a = c.args in
    rw c.in-Sr1.is (sr1_proposed _ _ _ (lent a.place.now a.proposal.now a.scratch.now) a.n c.propose-in-Sr1.ensures)
