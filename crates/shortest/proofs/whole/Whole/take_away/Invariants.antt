use mathlib.Core.Path.{◌≡◌}
use Prim.Native.Nat.{◌+◌, ◌-◌, ◌≤◌}
use lib.ListN.{drop}
use Rattle.shortest.specs.Whole.{value}
use Rattle.shortest.proofs.Limbs.{over}
use Rattle.shortest.proofs.whole.Whole.take_away.Given as goal

abbrev pub invariant-loop-i : goal.invariant-loop-i
invariant-loop-i l =
    let rest = value (drop l.i l.limb-items) in
    let taken = value (drop l.i l.b-inside.limbs) in
    (l.owed ≤ 1) × (taken + l.owed ≤ rest) × (over l.limb-items l.i (rest - taken - l.owed) ≡ value l.initial.limb-items - value l.b-inside.limbs)
