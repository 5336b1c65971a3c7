-- `report::lines::lists` meets its contract. Assumes nothing.
use Rattle.stream.proofs.Pieces.{puts_append}
use Rattle.report.proofs.lines.lists.Goals as goal

pub returns : goal.returns
returns c = puts_append (puts_append c.put_list.ensures c.put_list-2.ensures) c.put_list-3.ensures
