-- `root::root_pattern` meets its contract: what the root is taken of is m, twice where g is odd. Assumes nothing.
use mathlib.Core.Path.{◌≡◌, sym, ap, ◌∙◌}
use Prim.Native.Nat.{ℕ, ◌*◌, ◌%◌, ◌^◌}
use native.Mathlib.Nat.{mul-one}
use native.Mathlib.Omega.{arith}
use Rattle.root.proofs.root_pattern.Goals as goal
use Rattle.root.proofs.root_pattern.Goals.{then-g-eq1, else-g-eq1}

twice : (m g w : ℕ) → w ≡ m * 2 → g % 2 ≡ 1 → w ≡ m * 2 ^ (g % 2)
twice m g w e o = e ∙ ap (λ (z : ℕ). m * 2 ^ z) (sym o)

once : (m g w : ℕ) → w ≡ m → g % 2 ≡ 0 → w ≡ m * 2 ^ (g % 2)
once m g w e o = e ∙ sym (mul-one m) ∙ ap (λ (z : ℕ). m * 2 ^ z) (sym o)

pub returns : goal.returns
returns c =
    let weighed : c.if-g-eq1.w ≡ c.args.m * 2 ^ (c.args.g % 2) =
    elim c.if-g-eq1.branch [
      | then-g-eq1 w ↦ twice c.args.m c.args.g c.if-g-eq1.w w.w-is (omega arith)
      | else-g-eq1 w ↦ once c.args.m c.args.g c.if-g-eq1.w w.w-is (omega arith)
    ] in
    rw (c.root_digits-q.ensures.0, weighed)
