-- `shortest::whole::Whole::at_most` meets its contract. What is left of both sides decides, limb by limb. Assumes nothing.
use mathlib.Core.Path.{◌≡◌, sym, ◌∙◌}
use Prim.Native.Nat.{◌^◌, ◌<◌}
use native.Mathlib.Numerals.{add-one}
use native.Mathlib.Omega.{arith}
use borrow.Author.Rules.{rules}
use lib.ListN.{get_or, length}
use Rattle.shortest.proofs.Limbs.{limb_product, compare_more, compare_end}
use Rattle.shortest.proofs.whole.Whole.at_most.Goals as goal

pub loop-i-preserved : goal.loop-i-preserved
loop-i-preserved c =
    let head = c.loop-i in
    let a = c.self.inside.limbs in
    let in-a : head.i < length a = search rules in
    let in-b : head.i < length c.b.inside.limbs = search rules in
    let in-c : head.i < length c.c.inside.limbs = search rules in
    let read-b : c.from.result ≡ get_or c.b.inside.limbs head.i 0 = search rules in
    let read-c : c.from-in-loop-i.result ≡ get_or c.c.inside.limbs head.i 0 = search rules in
    let read : c.from-in-loop-i-2.result ≡ get_or a head.i 0 = search rules in
    let small : c.from-in-loop-i-2.result < 2 ^ 32 = search rules in
    let next = compare_more a c.b.inside.limbs c.c.inside.limbs head.i in-a in-b in-c _ _ _ read read-b read-c c.args.p c.args.q head.owed head.carry small head.invariant.0 in
    (omega arith, omega (arith, limb_product {k = c.args.p} {l = c.from.result} c.requires.1 (search rules), limb_product {k = c.args.q} {l = c.from-in-loop-i.result} c.requires.2 (search rules)), rw add-one (next ∙ head.invariant.2))

pub returns : goal.returns
returns c =
    let head = c.loop-i in
    rw (c.self.view_is, c.b.view_is, c.c.view_is) at
    (sym (compare_end c.self.inside.limbs c.b.inside.limbs c.c.inside.limbs head.i c.args.p c.args.q head.owed head.carry (omega arith) (omega arith) (omega arith))
    ∙ head.invariant.2)
