-- `kernels::subproblem::Subproblem::curvature` meets its contract. Assumes nothing.
use mathlib.Core.Path.{◌∙◌}
use Rattle.vectors.proofs.Ends.{weighted_value}
use Rattle.kernels.proofs.subproblem.Subproblem.curvature.Goals as goal

pub returns : goal.returns
returns c = c.value.ensures ∙ weighted_value _ _ _ _ c.args.self.now.square c.requires c.requires c.weighted_dot.result c.weighted_dot.ensures
