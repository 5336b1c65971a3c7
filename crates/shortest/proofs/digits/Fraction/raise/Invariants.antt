use mathlib.Core.Path.{◌≡◌}
use Prim.Native.Nat.{◌+◌, ◌-◌, ◌*◌, ◌^◌, ◌<◌}
use Rattle.shortest.specs.Whole.{cap}
use Rattle.shortest.specs.Digits.{raises}
use Rattle.shortest.proofs.digits.Fraction.raise.Given as goal

abbrev pub invariant-loop-k : goal.invariant-loop-k
invariant-loop-k l =
    let first = l.initial.self-inside in
    let now = l.self-inside in
    (l.k + raises (400 - l.k) now.odd (now.r + 2 * now.u) now.s ≡ raises 400 first.odd (first.r + 2 * first.u) first.s)
    × (now ≡ record first { s = 10 ^ l.k * first.s })
    × (10 * now.s < cap)
    × (0 < now.s)
