-- `shortest::digits::Fraction::lower` meets its contract. The turns done and those that are left are all turns. Assumes nothing.
use mathlib.Core.Path.{sym, ap, ◌∙◌}
use Prim.Native.Nat.{◌+◌, ◌*◌, ◌^◌}
use native.Mathlib.Omega.{arith}
use borrow.Author.Tests.{leb-false}
use Rattle.shortest.specs.declared.digits.Fraction.TheInside.{Inside}
use Rattle.shortest.proofs.Turns.{power_more, lower_more}
use Rattle.shortest.proofs.digits.Fraction.lower.Goals as goal

pub loop-k-preserved : goal.loop-k-preserved
loop-k-preserved c =
    let head = c.loop-k in
    let now = head.self-inside in
    let first = c.self.inside in
    let t = sym c.at_most.ensures ∙ c.if-at_most.false in
    let below = leb-false (now.s + now.odd) (10 * now.r + 20 * now.u) t in
    let more = lower_more head.k now.odd now.r now.u now.s _ c.loop-k-test.true t head.invariant.0 in
    let er = c.times.ensures ∙ power_more 10 head.k now.r first.r (ap (λ (a : Inside). a.r) head.invariant.1) in
    let eu = c.times-in-loop-k.ensures ∙ power_more 10 head.k now.u first.u (ap (λ (a : Inside). a.u) head.invariant.1) in
    let next = 10 ^ (head.k + 1) in (
      rw (c.times.ensures, c.times-in-loop-k.ensures) more,
      rw (er, eu) (ap (λ (a : Inside). record a { r = next * first.r; u = next * first.u }) head.invariant.1),
      omega arith,
      omega arith,
    )
