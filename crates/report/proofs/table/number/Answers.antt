-- `report::table::number` meets its contract. Assumes nothing.
use Rattle.std.proofs.Common.{sym, arith, length-take-le}
use Rattle.stream.specs.Pieces.{one}
use Rattle.stream.proofs.Pieces.{puts_one}
use Rattle.report.proofs.Columns.{written}
use Rattle.report.proofs.table.number.Goals as goal

pub slice_bounds-digits-end : goal.slice_bounds-digits-end
slice_bounds-digits-end c = (written _ _ c.write-n.ensures.value c.write-n.ensures.out_after (omega arith)).within

pub slice_bounds-put_text-end : goal.slice_bounds-put_text-end
slice_bounds-put_text-end c = sym (length-take-le _ _ (written _ _ c.write-n.ensures.value c.write-n.ensures.out_after (omega arith)).within)

pub returns : goal.returns
returns c = one c.put_text.ensures (puts_one (rw (written _ _ c.write-n.ensures.value c.write-n.ensures.out_after (omega arith)).digits at c.put_text-2.ensures))
