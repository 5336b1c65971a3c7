-- `kernels::inverse::take_pivot` meets its contract. Assumes nothing.
use Rattle.kernels.proofs.Rows.{takes_pivot}
use Rattle.kernels.proofs.inverse.take_pivot.Goals as goal

pub returns : goal.returns
returns c =
    takes_pivot c.args.w.now _ _ _ c.args.n c.args.j c.args.p _ c.entry-pivot.ensures c.map.ensures c.move_row.ensures c.copy.ensures
