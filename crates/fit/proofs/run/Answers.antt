-- `fit::run` meets its contract. Assumes nothing.
use Rattle.fit.proofs.Words.{came_same}
use Rattle.fit.proofs.Turns.{ended}
use Rattle.fit.proofs.run.Goals as goal

pub returns : goal.returns
returns c = ended (came_same _ _ _ _ c.read-start.ensures.comes) c.opened.ensures c.skip.ensures
