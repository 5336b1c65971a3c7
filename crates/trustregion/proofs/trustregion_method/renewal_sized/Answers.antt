-- `trustregion::trustregion_method::renewal_sized` meets its contract. Assumes nothing.
use Rattle.std.proofs.Common.{arith, sym}
use Rattle.vectors.proofs.Sizes.{size_small}
use Rattle.trustregion.proofs.trustregion_method.renewal_sized.Goals as goal

pub overflow_mul-n : goal.overflow_mul-n
overflow_mul-n c = omega (arith, size_small _ (sym c.if-size.ensures))

pub overflow_mul-n-then-size : goal.overflow_mul-n-then-size
overflow_mul-n-then-size c = omega (arith, size_small _ (sym c.if-size.ensures))
