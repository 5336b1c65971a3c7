-- `offer::lent::copy` meets its contract. The loop's invariant: the first i numbers are the other vector's. Assumes nothing.
use mathlib.Core.Path.{refl, sym, ◌∙◌}
use borrow.Author.Rules.{rules}
use Rattle.vectors.proofs.Vectors.{tab_at}
use Rattle.vectors.proofs.Slots.{filling_more, filling_done}
use Rattle.offer.proofs.Lengths.{copied}
use Rattle.offer.proofs.lent.copy.Goals as goal

pub loop-i-preserved : goal.loop-i-preserved
loop-i-preserved c = filling_more c.loop-i.invariant (search rules) c.one_nan.ensures

pub returns : goal.returns
returns c =
    let a = c.args in
    let same = c.if-to-from.false in
    filling_done c.loop-i.invariant (search rules) same ∙ tab_at a.from.now _ refl ∙ sym (copied a.from.now a.to.now same)
