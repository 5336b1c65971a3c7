-- `kernels::steihaug::start` meets its contract. Assumes nothing.
use mathlib.Core.Path.{sym}
use lib.Seq.{length-take-le}
use borrow.Author.Rules.{rules}
use Rattle.kernels.proofs.Passes.{start_here}
use Rattle.kernels.proofs.steihaug.start.Goals as goal

pub slice_bounds-clear-end-2 : goal.slice_bounds-clear-end-2
slice_bounds-clear-end-2 c = sym (length-take-le _ _ (search rules))

pub returns : goal.returns
returns c =
    start_here _ _ _ _ (search rules) c.clear.ensures _ _ _ _ c.put.ensures c.put_times.ensures c.dot_any.ensures
