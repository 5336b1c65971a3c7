-- `case::fill` meets its contract. The loop's invariant: the first i numbers are read. Assumes nothing.
use Rattle.std.proofs.Common.{refl, rules}
use Rattle.vectors.proofs.Slots.{filling_none, filling_more, filling_done}
use Rattle.case.specs.Case.{numbers}
use Rattle.case.proofs.fill.Goals as goal

pub loop-i-init : goal.loop-i-init
loop-i-init c = filling_none refl

pub loop-i-preserved : goal.loop-i-preserved
loop-i-preserved c = filling_more c.loop-i.invariant (search rules) c.number.ensures

pub returns : goal.returns
unfolding numbers
returns c = filling_done c.loop-i.invariant (search rules) refl
