use mathlib.Core.Path.{◌≡◌}
use Prim.Native.Nat.{◌+◌, ◌-◌, ◌*◌, ◌^◌, ◌<◌}
use Rattle.shortest.specs.Digits.{lowers}
use Rattle.shortest.proofs.digits.Fraction.lower.Given as goal

abbrev pub invariant-loop-k : goal.invariant-loop-k
invariant-loop-k l =
    let first = l.initial.self-inside in
    let now = l.self-inside in
    (l.k + lowers (400 - l.k) now.odd (now.r + 2 * now.u) now.s ≡ lowers 400 first.odd (first.r + 2 * first.u) first.s)
    × (now ≡ record first { r = 10 ^ l.k * first.r; u = 10 ^ l.k * first.u })
    × (now.r + 2 * now.u < now.s + now.odd)
    × (0 < now.u)
