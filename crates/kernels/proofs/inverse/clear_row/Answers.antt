-- `kernels::inverse::clear_row` meets its contract. Assumes nothing.
use Rattle.kernels.proofs.Rows.{clears}
use Rattle.kernels.proofs.inverse.clear_row.Goals as goal

pub returns : goal.returns
returns c = clears c.args.w.now _ c.args.n c.args.j c.args.i _ c.entry-a.ensures c.requires.3 c.zip.ensures
