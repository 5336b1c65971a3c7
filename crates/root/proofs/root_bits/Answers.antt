-- `root::root_bits` meets its contract. Assumes nothing.
use mathlib.Core.Path.{◌≡◌, sym, ap, ◌∙◌, subst}
use Prim.Native.Nat.{ℕ, ◌+◌, ◌-◌, ◌*◌, ◌/◌, ◌%◌, ◌^◌, ◌<◌, ◌≤◌}
use native.Mathlib.Nat.{mod-eq_of_lt, lt_trans}
use native.Mathlib.Omega.{arith}
use lib.Count.{count_leading_zeros}
use lib.Dec.{lit<}
use lib.Ieee.{binary64, of_bits}
use Rattle.root.specs.Root.{root, whole_root}
use Rattle.root.proofs.Bits.{Lifted, lifted, normal_root, low_root}
use Rattle.root.proofs.root_bits.Goals as goal

-- what is shifted out of 64 places is nothing
whole : (t up : ℕ) → Lifted t up → t * 2 ^ up % 2 ^ 64 ≡ t * 2 ^ up
whole t up h = mod-eq_of_lt (lt_trans h.high (lit< tt))

pub returns-then-x-gt0 : goal.returns-then-x-gt0
returns-then-x-gt0 c = normal_root _ _ (omega arith) (omega arith) c.root_pattern.ensures

pub overflow_sub-up : goal.overflow_sub-up
overflow_sub-up c = (lifted (c.args.b % 2 ^ 52) (omega arith) (omega arith)).0

pub root_pattern-requires-2 : goal.root_pattern-requires-2
root_pattern-requires-2 c =
    let t = c.args.b % 2 ^ 52 in
    let up = count_leading_zeros 64 t - 11 in
    let h = (lifted t (omega arith) (omega arith)).1 in
    subst (λ (m : ℕ). (2 ^ 52 ≤ m) × (m < 2 ^ 53) × (1022 - c.from.result < 4000)) (sym (whole t up h)) (h.low, h.high, omega arith)

pub returns : goal.returns
returns c =
    let b = c.args.b in
    let t = b % 2 ^ 52 in
    let up = count_leading_zeros 64 t - 11 in
    let r = c.root_pattern-2.result in
    let h = (lifted t (omega arith) (omega arith)).1 in
    let found = λ (m g : ℕ). g / 2 * 2 ^ 52 + (whole_root (m * 2 ^ (g % 2) * 2 ^ 54) + 1) / 2 in
    let e : t ≡ b = omega arith in
    subst (λ (z : ℕ). (of_bits binary64 r ≡ root (of_bits binary64 z)) × (r < 2047 * 2 ^ 52)) e
    (low_root t up r (omega arith) (omega arith) h (c.root_pattern-2.ensures ∙ ap (λ (z : ℕ). found (t * 2 ^ up % 2 ^ 64) (1022 - z)) c.from.ensures ∙ ap (λ (m : ℕ). found m (1022 - up)) (whole t up h)))
