use mathlib.Core.Path.{◌≡◌}
use Prim.Native.Nat.{◌+◌, ◌*◌, ◌≤◌}
use lib.Dec.{leb}
use lib.ListN.{drop}
use Rattle.shortest.specs.Whole.{value}
use Rattle.shortest.proofs.whole.Whole.at_most.Given as goal

abbrev pub invariant-loop-i : goal.invariant-loop-i
invariant-loop-i l =
    (l.owed ≤ 1)
    × (l.carry ≤ 131072)
    × (leb (value (drop l.i l.limb-items) + l.owed) (l.p * value (drop l.i l.b-inside.limbs) + l.q * value (drop l.i l.c-inside.limbs) + l.carry)
    ≡ leb (value l.limb-items + l.o) (l.p * value l.b-inside.limbs + l.q * value l.c-inside.limbs))
