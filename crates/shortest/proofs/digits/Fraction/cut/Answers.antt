-- `shortest::digits::Fraction::cut` meets its contract. The rest and what was taken away make the whole. Assumes nothing.
use mathlib.Core.Path.{◌≡◌, sym, ap, ◌∙◌}
use Prim.Native.Nat.{ℕ, ◌+◌, ◌*◌, ◌<◌}
use native.Mathlib.Omega.{arith}
use borrow.Author.Tests.{leb-false}
use Rattle.shortest.specs.Digits.{Parts}
use Rattle.shortest.specs.declared.digits.Fraction.TheInside.{Inside}
use Rattle.shortest.proofs.Turns.{single, cut_whole, cut_rest}
use Rattle.shortest.proofs.digits.Fraction.cut.Goals as goal

abbrev parts : Inside → Parts
parts a = record { r = a.r; s = a.s; u = a.u; low = a.low; odd = a.odd }

pub returns-then-not-at_most : goal.returns-then-not-at_most
returns-then-not-at_most c =
    let head = c.loop-d in
    let now = head.self-inside in
    let first = c.self.inside in
    let same = ap (λ (a : Inside). a.s) head.invariant.1 in
    let h : now.r < first.s = rw same at (leb-false now.s now.r (sym (single now.s now.r now.r c.at_most.ensures) ∙ c.if-not-at_most.true)) in
    let rest = cut_rest now.r head.d first.s first.r h head.invariant.0 in
    rw (← c.self.view_is)
    (record { value = (cut_whole now.r head.d first.s first.r h head.invariant.0, omega arith); after = ap parts head.invariant.1 ∙ ap (λ (r : ℕ). record (parts first) { r = r }) rest })

pub returns : goal.returns
returns c =
    let head = c.loop-d in
    let now = head.self-inside in
    let first = c.self.inside in
    let full : head.d ≡ 9 = omega arith in
    let nine : now.r + 9 * first.s ≡ first.r = rw full at head.invariant.0 in
    let fits : first.r < 10 * first.s = rw (← c.self.view_is) at c.requires in
    let h : now.r < first.s = omega arith in
    let rest = cut_rest now.r head.d first.s first.r h head.invariant.0 in
    rw (← c.self.view_is)
    (record { value = (rw full at (cut_whole now.r head.d first.s first.r h head.invariant.0), omega arith); after = ap parts head.invariant.1 ∙ ap (λ (r : ℕ). record (parts first) { r = r }) rest })
