use mathlib.Core.Path.{◌≡◌}
use Prim.Native.Nat.{◌+◌, ◌-◌, ◌*◌, ◌^◌, ◌≤◌, ◌<◌}
use Rattle.shortest.specs.Digits.{shortest}
use Rattle.shortest.proofs.digits.Fraction.shortest.Given as goal

abbrev pub invariant-loop-n : goal.invariant-loop-n
invariant-loop-n l =
    let first = l.initial.self in
    let now = l.self in
    (shortest (17 - l.n) now.low now.odd now.s l.number l.n now.r now.u ≡ shortest 17 first.low first.odd first.s 0 0 first.r first.u)
    × (now ≡ record first { r = now.r; u = now.u })
    × (now.r + 2 * now.u < now.s + now.odd)
    × (l.number + 1 ≤ 10 ^ l.n)
