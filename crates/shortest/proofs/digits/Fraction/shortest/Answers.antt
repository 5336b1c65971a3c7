-- `shortest::digits::Fraction::shortest` meets its contract. What is left to find from here is what was to be found at the start. Assumes nothing.
use mathlib.Core.Path.{ap, ◌∙◌}
use Prim.Native.Nat.{◌%◌}
use native.Mathlib.Omega.{arith}
use Rattle.shortest.specs.Digits.{Parts}
use Rattle.shortest.proofs.Turns.{ending_open, added_some, digits_small, digits_fit, shortest_more}
use Rattle.shortest.proofs.digits.Fraction.shortest.Goals as goal

pub overflow_mul-number : goal.overflow_mul-number
overflow_mul-number c =
    omega (arith, digits_fit c.loop-n.number c.loop-n.n c.loop-n.invariant.3)

pub overflow_add-number : goal.overflow_add-number
overflow_add-number c =
    omega (arith, digits_fit c.loop-n.number c.loop-n.n c.loop-n.invariant.3)

pub overflow_add-result : goal.overflow_add-result
overflow_add-result c =
    let some = added_some _ _ c.in-Some.ensures in
    omega (arith, digits_fit c.loop-n.number c.loop-n.n c.loop-n.invariant.3)

pub loop-n-preserved : goal.loop-n-preserved
loop-n-preserved c =
    let head = c.loop-n in
    let a = c.self.inside in
    let whole = rw (← c.self.view_is) at head.invariant.0 in
    let more = shortest_more head.n a.low a.odd a.s head.number a.r a.u _ _ _ _ c.loop-n-test.true c.times.ensures c.times-in-loop-n.ensures c.cut.ensures.value.0 whole in
    let none = rw c.cut.ensures.after at c.in_default.ensures in
    let kept = c.self.view_is ∙ head.invariant.1 in
    let r = c.times.new.self % a.s in
    let u = c.times-in-loop-n.new.self in
    rw c.cut.ensures.after
    (more none, ap (λ (p : Parts). record p { r = r; u = u }) kept, ending_open a.low a.odd a.s r u none, digits_small head.number c.cut.result head.n head.invariant.3 c.cut.ensures.value.1)
