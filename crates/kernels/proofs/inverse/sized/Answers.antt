-- `kernels::inverse::sized` meets its contract. Assumes nothing.
use Rattle.std.proofs.Common.{arith, sym}
use Rattle.vectors.proofs.Sizes.{size_small}
use Rattle.kernels.proofs.inverse.sized.Goals as goal

pub overflow_mul-n-then-size : goal.overflow_mul-n-then-size
overflow_mul-n-then-size c = omega (arith, size_small _ (sym c.if-size.ensures))

pub overflow_mul-n-then-size-2 : goal.overflow_mul-n-then-size-2
overflow_mul-n-then-size-2 c = omega (arith, size_small _ (sym c.if-size.ensures))

pub overflow_mul-n-then-size-3 : goal.overflow_mul-n-then-size-3
overflow_mul-n-then-size-3 c = omega (arith, size_small _ (sym c.if-size.ensures))

pub overflow_mul-n-then-size-4 : goal.overflow_mul-n-then-size-4
overflow_mul-n-then-size-4 c = omega (arith, size_small _ (sym c.if-size.ensures))

pub overflow_add-n : goal.overflow_add-n
overflow_add-n c = omega (arith, size_small _ (sym c.if-size.ensures))

pub overflow_mul-n : goal.overflow_mul-n
overflow_mul-n c = omega (arith, size_small _ (sym c.if-size.ensures))
