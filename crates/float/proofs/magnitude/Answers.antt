-- `float::magnitude` meets its contract. Assumes nothing.
use mathlib.Core.Path.{◌∙◌}
use Rattle.float.proofs.Scalars.{below_zero, at_zero, above_zero}
use Rattle.float.proofs.magnitude.Goals as goal

pub returns-then-x : goal.returns-then-x
returns-then-x c = below_zero c.args.x c.if-x.true

pub returns-then-x-2 : goal.returns-then-x-2
returns-then-x-2 c = at_zero c.args.x c.well_formed.0.1 c.if-x-2.true

pub returns : goal.returns
returns c = c.one_nan.ensures ∙ above_zero c.args.x c.if-x.false c.if-x-2.false
