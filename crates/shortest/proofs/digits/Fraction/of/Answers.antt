-- `shortest::digits::Fraction::of` meets its contract. Assumes nothing.
use Prim.Native.Nat.{◌-◌, ◌^◌, ◌≤◌}
use native.Mathlib.Nat.{one-le-pow}
use native.Mathlib.Omega.{arith}
use Rattle.shortest.proofs.Turns.{below_most, below_tens}
use Rattle.shortest.proofs.digits.Fraction.of.Goals as goal

pub invariant_of-result : goal.invariant_of-result
invariant_of-result c =
    let p = c.args.power in
    let up : 1 ≤ 2 ^ (p - 1075) = one-le-pow (p - 1075) 2 (omega arith) in
    let down : 1 ≤ 2 ^ (1075 - p) = one-le-pow (1075 - p) 2 (omega arith) in
    rw (c.shift-3.ensures, c.saturating_sub.ensures, c.from-s.ensures, c.shift-2.ensures, c.saturating_sub-up.ensures, c.from-u.ensures)
    (c.requires.3, omega arith, omega arith, below_tens _ (below_most p c.requires.1), omega arith)
