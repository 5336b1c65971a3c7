-- `kernels::dogleg::bent` meets its contract. Assumes nothing.
use Rattle.kernels.proofs.Doglegs.{bent_first, bent_second}
use Rattle.kernels.proofs.dogleg.bent.Goals as goal

pub returns-then-tau : goal.returns-then-tau
returns-then-tau c = bent_first _ _ _ _ c.if-tau.true c.map.ensures

pub returns-else-tau : goal.returns-else-tau
returns-else-tau c = bent_second _ _ _ _ c.if-tau.false c.zip.ensures
