-- The loop of `root_digits`: what has been taken in of m * 2 ^ 54 after i steps, and a step. Assumes nothing.
use mathlib.Core.Path.{◌≡◌, sym, ap, ◌∙◌}
use Prim.Native.Nat.{ℕ, ◌+◌, ◌-◌, ◌*◌, ◌/◌, ◌%◌, ◌^◌, ◌≤◌, ◌<◌}
use native.Mathlib.Nat.{mul-mul-mul_comm, le_trans, mul-add, add-mul, mul_left_comm, mul_assoc, mul_comm, pow-succ'}
use native.Mathlib.Numerals.{add-one}
use native.Mathlib.Omega.{arith}
use lib.Pow.{pow_mono}
use Rattle.root.specs.Root.{whole_root}
use Rattle.root.proofs.Whole.{whole_root_is}

pub record Taken (m a q r i : ℕ) : Type 0 where
  pub all : (q * q + r) * 2 ^ 64 + a ≡ m * 1024 * 4 ^ i
  pub rest : a < 2 ^ 64
  pub remainder : r ≤ 2 * q
  pub small : q + 1 ≤ 2 ^ i
  pub cap : q + 1 ≤ 2 ^ 54

four_times : (w i : ℕ) → w * 4 ^ (i + 1) ≡ 4 * (w * 4 ^ i)
four_times w i = ap (λ (z : ℕ). w * 4 ^ z) (add-one i) ∙ ap (λ (z : ℕ). w * z) (pow-succ' 4 i) ∙ mul_left_comm w 4 (4 ^ i)

two_times : (i : ℕ) → 2 ^ (i + 1) ≡ 2 * 2 ^ i
two_times i = ap (λ (z : ℕ). 2 ^ z) (add-one i) ∙ pow-succ' 2 i

even_square : (q : ℕ) → q * 2 * (q * 2) ≡ 4 * (q * q)
even_square q = mul-mul-mul_comm q 2 q 2 ∙ mul_comm (q * q) 4

odd_square : (q : ℕ) → (q * 2 + 1) * (q * 2 + 1) ≡ 4 * (q * q) + 4 * q + 1
odd_square q =
    let a = mul-add (q * 2 + 1) (q * 2) 1 in
    let b = add-mul (q * 2) 1 (q * 2) in
    let c = even_square q in
    omega arith

module _ (m a q r i : ℕ) (h : Taken m a q r i) (l : i < 54) where
  cap_next : (p : ℕ) → p + 1 ≤ 2 ^ (i + 1) → p + 1 ≤ 2 ^ 54
  cap_next p k = le_trans k (pow_mono (up i l))
    where
      up : (i : ℕ) → i < 54 → i + 1 ≤ 54
      up i l = omega arith

  pub digit_one : q * 4 + 1 ≤ r * 4 + a / 2 ^ 62 → Taken m (a % 2 ^ 62 * 4) (q * 2 + 1) (r * 4 + a / 2 ^ 62 - (q * 4 + 1)) (i + 1)
  digit_one g =
      let s = odd_square q in
      let f = four_times (m * 1024) i in
      let w = two_times i in
      let b = h.all in
      let d : q * 2 + 1 + 1 ≤ 2 ^ (i + 1) = omega arith in
      record { all = omega arith; rest = omega arith; remainder = omega arith; small = d; cap = cap_next (q * 2 + 1) d }

  pub digit_zero : r * 4 + a / 2 ^ 62 < q * 4 + 1 → Taken m (a % 2 ^ 62 * 4) (q * 2) (r * 4 + a / 2 ^ 62) (i + 1)
  digit_zero g =
      let s = even_square q in
      let f = four_times (m * 1024) i in
      let w = two_times i in
      let b = h.all in
      let d : q * 2 + 1 ≤ 2 ^ (i + 1) = omega arith in
      record { all = omega arith; rest = omega arith; remainder = omega arith; small = d; cap = cap_next (q * 2) d }

-- after 54 steps nothing is left
pub taken_all : (m a q r : ℕ) → Taken m a q r 54 → q ≡ whole_root (m * 2 ^ 54)
taken_all m a q r h =
    let e : (q * q + r) * 2 ^ 64 + a ≡ m * 2 ^ 54 * 2 ^ 64 = h.all ∙ mul_assoc m 1024 (4 ^ 54) ∙ sym (mul_assoc m (2 ^ 54) (2 ^ 64)) in
    let z : q * q + r ≡ m * 2 ^ 54 = exact (q * q + r) a (m * 2 ^ 54) h.rest e in
    sym (whole_root_is (m * 2 ^ 54) q (record { low = from (q * q) r z; high = below q r (m * 2 ^ 54) z h.remainder }))
  where
    exact : (x a y : ℕ) → a < 2 ^ 64 → x * 2 ^ 64 + a ≡ y * 2 ^ 64 → x ≡ y
    exact x a y l e = omega arith

    from : (x r : ℕ) {y : ℕ} → x + r ≡ y → x ≤ y
    from x r e = omega arith

    below : (q r y : ℕ) → q * q + r ≡ y → r ≤ 2 * q → y < (q + 1) * (q + 1)
    below q r y e h =
        let a = mul-add (q + 1) q 1 in
        let b = add-mul q 1 q in
        omega arith
