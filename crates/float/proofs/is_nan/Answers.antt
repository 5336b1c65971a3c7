-- `float::is_nan` meets its contract. Assumes nothing.
use Rattle.float.proofs.Nan.{differs_is_nan}
use Rattle.float.proofs.is_nan.Goals as goal

pub returns : goal.returns
returns c = differs_is_nan c.args.x
