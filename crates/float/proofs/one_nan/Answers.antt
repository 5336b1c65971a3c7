-- `float::one_nan` meets its contract: only a NaN differs from itself. Assumes nothing.
use mathlib.Core.Path.{refl, sym, ◌∙◌}
use lib.Ieee.{div, of_bits}
use Rattle.float.proofs.Nan.{is_nan_lem, differs_is_nan}
use Rattle.float.proofs.one_nan.Goals as goal

pub returns-then-x : goal.returns-then-x
unfolding div of_bits
returns-then-x c = sym (is_nan_lem c.args.x (sym (differs_is_nan c.args.x) ∙ c.if-x.true))

pub returns-else-x : goal.returns-else-x
unfolding div of_bits
returns-else-x c = refl
