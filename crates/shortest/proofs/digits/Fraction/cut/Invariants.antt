use mathlib.Core.Path.{◌≡◌}
use Prim.Native.Nat.{◌+◌, ◌*◌}
use Rattle.shortest.proofs.digits.Fraction.cut.Given as goal

abbrev pub invariant-loop-d : goal.invariant-loop-d
invariant-loop-d l =
    let first = l.initial.self-inside in
    let now = l.self-inside in
    (now.r + l.d * first.s ≡ first.r) × (now ≡ record first { r = now.r })
