-- `vectors::refusal::shaped` meets its contract. Assumes nothing.
use Rattle.std.proofs.Common.{arith, sym}
use Rattle.vectors.proofs.Sizes.{size_small}
use Rattle.vectors.proofs.refusal.shaped.Goals as goal

pub overflow_mul-n : goal.overflow_mul-n
overflow_mul-n c = omega (arith, size_small _ (sym c.if-size.ensures))
