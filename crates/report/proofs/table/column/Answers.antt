-- `report::table::column` meets its contract. Assumes nothing.
use Rattle.std.proofs.Common.{◌∙◌}
use Rattle.stream.proofs.Pieces.{puts_one}
use Rattle.report.proofs.Columns.{in_column}
use Rattle.report.proofs.table.column.Goals as goal

pub returns : goal.returns
returns c = puts_one (rw (c.write.ensures.out_after ∙ in_column c.args.x) at c.put_text.ensures)
