-- `shortest::whole::Whole::times` meets its contract. Each turn writes one limb: what is written and what is left make the product. Assumes nothing.
use mathlib.Core.Path.{◌≡◌, ap, ◌∙◌}
use Prim.Native.Nat.{ℕ, ◌*◌}
use native.Mathlib.Nat.{add-zero}
use native.Mathlib.Numerals.{add-one}
use native.Mathlib.Omega.{arith}
use borrow.Author.Rules.{rules}
use lib.ListN.{get_or}
use Rattle.shortest.proofs.Limbs.{over_start, limb_product, product_more, product_end}
use Rattle.shortest.proofs.whole.Whole.times.Goals as goal

pub loop-limb-init : goal.loop-limb-init
loop-limb-init c = (omega arith, over_start _ _ ∙ add-zero _)

pub loop-limb-preserved : goal.loop-limb-preserved
loop-limb-preserved c =
    let head = c.loop-limb in
    let read : c.from.result ≡ get_or head.limb-items head.limb-index 0 = search rules in
    let next = product_more head.limb-items head.limb-index c.args.k head.carry c.from.result (omega arith) read in
    (omega (arith, limb_product {k = c.args.k} {l = c.from.result} c.requires.0 (search rules)), rw add-one (next ∙ head.invariant.1))

pub returns : goal.returns
returns c =
    let head = c.loop-limb in
    let whole = head.invariant.1 ∙ ap (λ (n : ℕ). c.args.k * n) c.self.view_is in
    product_end head.limb-items head.limb-index c.args.k head.carry _ c.loop-limb-test.array_long (omega arith) whole c.requires.1
