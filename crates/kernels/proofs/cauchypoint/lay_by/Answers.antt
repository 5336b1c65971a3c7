-- `kernels::cauchypoint::lay_by` meets its contract. Assumes nothing.
use Rattle.kernels.proofs.CauchyPoints.{along_laid}
use Rattle.kernels.proofs.cauchypoint.lay_by.Goals as goal

pub returns : goal.returns
returns c =
    along_laid _ _ _ _ _ _ _ _ _ _ c.factor-factor.ensures c.put_times.ensures c.put_times.auto.w c.settle.ensures
