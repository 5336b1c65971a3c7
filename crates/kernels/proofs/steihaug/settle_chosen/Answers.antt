-- `kernels::steihaug::settle_chosen` meets its contract. Assumes nothing.
use Rattle.kernels.proofs.Passes.{moved_laid}
use Rattle.kernels.proofs.steihaug.settle_chosen.Goals as goal

pub returns : goal.returns
returns c =
    moved_laid _ _ _ _ _ _ c.copy.ensures c.copy.auto.w c.settle.ensures
