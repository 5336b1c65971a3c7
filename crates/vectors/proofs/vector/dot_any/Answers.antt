-- `vectors::vector::dot_any` meets its contract. The loop's invariant: sum is that of the first i products. Assumes nothing.
use Rattle.std.proofs.Common.{◌≡◌, ◌∙◌, refl, length, arith, add-one}
use lib.Ieee.{div, of_bits}
use Rattle.vectors.specs.Vector.{dot_to, dot}
use Rattle.vectors.proofs.Vectors.{dot_short}
use Rattle.vectors.proofs.vector.dot_any.Goals as goal

pub returns-then-b-a : goal.returns-then-b-a
unfolding div of_bits
returns-then-b-a c = dot_short _ _ c.if-b-a.true

pub loop-i-init : goal.loop-i-init
unfolding dot_to
loop-i-init c = refl

pub loop-i-preserved : goal.loop-i-preserved
unfolding dot_to
loop-i-preserved c = let inv = c.loop-i.invariant in simp add-one (cc)

pub returns : goal.returns
unfolding dot
returns c =
    let inv = c.loop-i.invariant in
    let done : c.loop-i.i ≡ length c.args.a.now = omega arith in
    c.one_nan.ensures ∙ inv ∙ rw done
