-- `kernels::inverse::entry` meets its contract. Assumes nothing.
use mathlib.Core.Path.{sym}
use native.Mathlib.Omega.{arith}
use Prim.Native.Nat.{◌+◌}
use Rattle.vectors.proofs.Slots.{at_slot}
use Rattle.kernels.proofs.inverse.entry.Goals as goal

pub returns : goal.returns
returns c = let a = c.args in sym (at_slot a.w.now (a.n + a.n) (4 + a.i) a.j (omega arith))
