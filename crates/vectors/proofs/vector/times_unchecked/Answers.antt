-- `vectors::vector::times_unchecked` meets its contract. The loops' invariants: the first i numbers of H·d are there; total is the sum of the
-- first k products of row i and d. Assumes nothing.
use Rattle.std.proofs.Common.{◌≡◌, ◌<◌, ◌∙◌, refl, length, rules, arith, add-one}
use Rattle.vectors.specs.Vector.{dot_to, dot, times}
use Rattle.vectors.proofs.Sizes.{row_good, length_row}
use Rattle.vectors.proofs.Slots.{filling_none, filling_more, filling_done}
use Rattle.vectors.proofs.vector.times_unchecked.Goals as goal

pub loop-i-init : goal.loop-i-init
unfolding times
loop-i-init c = filling_none (search rules)

pub loop-k-init : goal.loop-k-init
unfolding dot_to
loop-k-init c =
    let small : c.loop-i.i < c.args.n = search rules in
    let is = c.row-part.ensures ∙ row_good _ _ _ c.requires.0 small in
    (is, rw is (length_row _ _ _ c.requires.0 small), refl)

pub loop-k-preserved : goal.loop-k-preserved
unfolding dot_to
loop-k-preserved c = let inv = c.loop-k.invariant in (inv.0, inv.1, simp add-one (cc))

pub loop-i-preserved : goal.loop-i-preserved
unfolding dot
loop-i-preserved c =
    let inv = c.loop-k.invariant in
    let done : c.loop-k.k ≡ length c.row-part.result.now = omega arith in
    filling_more c.loop-i.invariant (search rules) (c.one_nan.ensures ∙ inv.2 ∙ rw (done, inv.0))

pub returns : goal.returns
unfolding times
returns c = filling_done c.loop-i.invariant (search rules) (search rules)
