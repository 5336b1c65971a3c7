-- `vectors::vector::weighted_unchecked` meets its contract. The loop's invariant: total is the sum of the first i products with H·b. Assumes nothing.
use Rattle.std.proofs.Common.{refl, rules, arith}
use Rattle.vectors.specs.Vector.{dot_to}
use Rattle.vectors.proofs.Vectors.{weighted_more, weighted_done}
use Rattle.vectors.proofs.vector.weighted_unchecked.Goals as goal

pub loop-i-init : goal.loop-i-init
unfolding dot_to
loop-i-init c = refl

pub loop-i-preserved : goal.loop-i-preserved
unfolding dot_to
loop-i-preserved c = weighted_more _ _ _ _ c.loop-i.i _ _ (search rules) c.loop-i.invariant c.row_dot.ensures

pub returns : goal.returns
unfolding dot_to
returns c = weighted_done _ _ _ _ c.loop-i.i _ (omega (arith, c.requires.1)) c.loop-i.invariant
