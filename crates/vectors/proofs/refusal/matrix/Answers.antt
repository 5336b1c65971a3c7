-- `vectors::refusal::matrix` meets its contract. Assumes nothing.
use Rattle.std.proofs.Common.{arith, sym}
use Rattle.vectors.proofs.Sizes.{size_small}
use Rattle.vectors.proofs.refusal.matrix.Goals as goal

pub overflow_mul-result : goal.overflow_mul-result
overflow_mul-result c = omega (arith, size_small _ (sym c.if-size.ensures))
