-- `shortest::whole::Whole::take_away` meets its contract. Each turn writes one limb: what is written and what is left make the difference. Assumes nothing.
use mathlib.Core.Path.{◌≡◌, ◌∙◌}
use Prim.Native.Nat.{◌+◌, ◌^◌, ◌<◌, ◌≤◌}
use native.Mathlib.Nat.{sub-zero}
use native.Mathlib.Numerals.{add-one}
use native.Mathlib.Omega.{arith}
use borrow.Author.Rules.{rules}
use lib.ListN.{get_or, length}
use Rattle.shortest.specs.Whole.{value}
use Rattle.shortest.proofs.Limbs.{over_start, difference_fits_more, difference_more, difference_end}
use Rattle.shortest.proofs.whole.Whole.take_away.Goals as goal

pub loop-i-init : goal.loop-i-init
loop-i-init c =
    let fits : value c.b.inside.limbs ≤ value c.self.inside.limbs = rw (c.self.view_is, c.b.view_is) c.requires in
    (omega arith, omega arith, over_start _ _ ∙ sub-zero _)

pub loop-i-preserved : goal.loop-i-preserved
loop-i-preserved c =
    let head = c.loop-i in
    let a = head.limb-items in
    let b = c.b.inside.limbs in
    let read : c.from.result ≡ get_or a head.i 0 = search rules in
    let read-b : c.from-in-loop-i.result ≡ get_or b head.i 0 = search rules in
    let in-a : head.i < length a = search rules in
    let in-b : head.i < length b = search rules in
    let small : c.from.result < 2 ^ 32 = search rules in
    let small-b : c.from-in-loop-i.result < 2 ^ 32 = search rules in
    let fits = difference_fits_more a b head.i head.owed _ _ in-a in-b read read-b small small-b head.invariant.0 head.invariant.1 in
    let next = difference_more a b head.i head.owed _ _ in-a in-b read read-b small small-b head.invariant.0 head.invariant.1 in
    (omega arith, rw add-one fits, rw add-one (next ∙ head.invariant.2))

pub returns : goal.returns
returns c =
    let head = c.loop-i in
    let e = difference_end head.limb-items c.b.inside.limbs head.i head.owed _ c.loop-i-test.array_long (omega arith) head.invariant.2 in
    let fits : value c.b.inside.limbs ≤ value c.self.inside.limbs = rw (c.self.view_is, c.b.view_is) c.requires in
    let whole : value head.limb-items + value c.b.inside.limbs ≡ value c.self.inside.limbs = omega arith in
    rw (c.b.view_is, c.self.view_is) at whole
