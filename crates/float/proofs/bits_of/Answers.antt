-- `float::bits_of` meets its contract. Assumes nothing.
use mathlib.Core.Path.{sym, ap, subst, ◌∙◌}
use mathlib.Core.Bool.{Bool, not}
use lib.Dec.{T}
use lib.Ieee.{binary64, to_bits}
use Rattle.float.proofs.Nan.{is_nan_lem, differs_is_nan}
use Rattle.float.proofs.bits_of.Goals as goal

pub float_to_bits-result : goal.float_to_bits-result
float_to_bits-result c = subst (λ (b : Bool). T (not b)) (sym (sym (differs_is_nan c.args.x) ∙ c.if-x.false)) tt

pub returns-then-x : goal.returns-then-x
unfolding to_bits
returns-then-x c = sym (ap (to_bits binary64) (is_nan_lem c.args.x (sym (differs_is_nan c.args.x) ∙ c.if-x.true)))
