-- `kernels::dogleg::measure` meets its contract. Assumes nothing.
use Rattle.kernels.proofs.Doglegs.{measured_here}
use Rattle.kernels.proofs.dogleg.measure.Goals as goal

pub returns : goal.returns
returns c =
    let c' = c in
    measured_here _ _ _ _ c'.zip.ensures c'.dot.ensures c.dot-2.ensures c.dot-3.ensures
