-- `kernels::textbook::outside` meets its contract. Assumes nothing.
use Rattle.kernels.proofs.Textbooks.{on_first, on_second}
use Rattle.kernels.proofs.textbook.outside.Goals as goal

pub returns-then-norm-problem : goal.returns-then-norm-problem
returns-then-norm-problem c =
    on_first _ _ _ _ _ _ _ _ c.unconstrained.ensures c.norm-norm.ensures c.if-norm-problem.true c.map.ensures

pub returns : goal.returns
returns c =
    on_second _ _ _ _ _ _ _ _ c.unconstrained.ensures c.norm-norm.ensures _ _ _ c.if-norm-problem.false c.measure.ensures c.along-far.ensures c.zip.ensures
