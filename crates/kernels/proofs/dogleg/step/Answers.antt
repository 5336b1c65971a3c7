-- `kernels::dogleg::step` meets its contract. Assumes nothing.
use Rattle.kernels.proofs.Doglegs.{inside, outsides}
use Rattle.kernels.proofs.dogleg.step.Goals as goal

pub returns-then-norm-problem : goal.returns-then-norm-problem
returns-then-norm-problem c = inside _ _ _ _ _ _ c.norm.ensures c.if-norm-problem.true

pub returns : goal.returns
returns c =
    outsides _ _ _ _ _ _ c.norm.ensures _ _ _ _ _ _ c.if-norm-problem.false c.curvature-curvature.ensures c.unconstrained.ensures c.measure.ensures c.tau-tau.ensures c.bent.ensures
