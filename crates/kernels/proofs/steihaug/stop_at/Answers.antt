-- `kernels::steihaug::stop_at` meets its contract. Assumes nothing.
use Rattle.kernels.proofs.Passes.{put_ahead}
use Rattle.kernels.proofs.steihaug.stop_at.Goals as goal

pub returns : goal.returns
returns c = rw (put_ahead _ _ _ 6 0 2 _ c.zip.ensures 6)
