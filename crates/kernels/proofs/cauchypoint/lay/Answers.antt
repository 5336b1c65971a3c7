-- `kernels::cauchypoint::lay` meets its contract. Assumes nothing.
use Rattle.kernels.proofs.CauchyPoints.{cauchy_laid}
use Rattle.kernels.proofs.cauchypoint.lay.Goals as goal

pub returns : goal.returns
returns c = cauchy_laid _ _ _ _ _ _ _ _ _ c.curvature-curvature.ensures c.norm_any-norm.ensures c.lay_by.ensures
