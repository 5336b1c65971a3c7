-- `report::lines::phase` meets its contract. Assumes nothing.
use Rattle.stream.proofs.Pieces.{puts_one, puts_append}
use Rattle.report.proofs.lines.phase.Goals as goal

pub returns-in-Ready : goal.returns-in-Ready
returns-in-Ready c = rw c.in-Ready.is (puts_one c.put_text.ensures)

pub returns-in-AwaitingCost : goal.returns-in-AwaitingCost
returns-in-AwaitingCost c = rw c.in-AwaitingCost.is (puts_append c.put_named.ensures c.put_named-in-AwaitingCost.ensures)

pub returns-in-AwaitingDerivatives : goal.returns-in-AwaitingDerivatives
returns-in-AwaitingDerivatives c = rw c.in-AwaitingDerivatives.is (puts_one c.put_text-in-AwaitingDerivatives.ensures)
