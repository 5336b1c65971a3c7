use mathlib.Core.Path.{◌≡◌}
use Prim.Native.Nat.{◌+◌, ◌*◌, ◌≤◌}
use lib.ListN.{drop}
use Rattle.shortest.specs.Whole.{value}
use Rattle.shortest.proofs.Limbs.{over}
use Rattle.shortest.proofs.whole.Whole.times.Given as goal

abbrev pub invariant-loop-limb : goal.invariant-loop-limb
invariant-loop-limb l = (l.carry ≤ 65536) × (over l.limb-items l.limb-index (l.k * value (drop l.limb-index l.limb-items) + l.carry) ≡ l.k * value l.initial.limb-items)
