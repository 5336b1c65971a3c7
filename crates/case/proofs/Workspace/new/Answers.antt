-- `case::Workspace::new` meets its contract. Assumes nothing.
use Rattle.vectors.proofs.Vectors.{zeros_again}
use Rattle.case.proofs.Workspace.new.Goals as goal

pub returns : goal.returns
returns c = (zeros_again 64, zeros_again 4096, zeros_again 64, zeros_again 8704)
