-- `fit::begin` meets its contract. Assumes nothing.
use Rattle.fit.proofs.Pages.{puts_same}
use Rattle.fit.proofs.begin.Goals as goal

pub returns-in_err-begun : goal.returns-in_err-begun
returns-in_err-begun c = puts_same c.written.ensures

pub returns : goal.returns
returns c = puts_same c.written.ensures
