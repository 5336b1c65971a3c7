-- The turns of the loops that find digits: what is left to do, and what has been done, make the whole. Assumes nothing.
use mathlib.Core.Path.{◌≡◌, refl, sym, ap, ◌∙◌}
use mathlib.Core.Bool.{Bool, true, false, cond}
use Rattle.std.proofs.Common.{None, Some}
use Rattle.std.proofs.lemmas.Bool.Decides.{nat_tests}
use Prim.Native.Nat.{ℕ, zero, suc, ◌+◌, ◌-◌, ◌*◌, ◌/◌, ◌%◌, ◌^◌, ◌<◌, ◌≤◌}
use native.Mathlib.Nat.{mul_assoc, one-mul, pow-succ', mul-le-mul, mul-le-mul_left, mul-le-mul_right, one-le-pow, add-mul-div_right, div-eq_of_lt, add-mul-mod_self_right, mod-eq_of_lt, pow-le-pow_right}
use native.Mathlib.Numerals.{add-one}
use lib.Pow.{pow-add}
use native.Mathlib.Omega.{arith}
use borrow.Author.Tests.{lt-ltb, le-ltb}
use lib.Dec.{leb, ltb, lit≤, lit<}
use Rattle.shortest.specs.Whole.{cap}
use Rattle.shortest.specs.Digits.{Digits, raises, lowers, ending, added, shortest}

-- ---- powers

pub power_more : (b k s a : ℕ) → s ≡ b ^ k * a → b * s ≡ b ^ (k + 1) * a
power_more b k s a e = rw (add-one k, pow-succ' b k, mul_assoc b (b ^ k) a, e)

cap_small : cap ≤ 10 ^ 400
unfolding cap
cap_small = lit≤ tt

too_large : (p c s a : ℕ) → c ≤ p → s ≡ p * a → 0 < a → s < c → ⊥
too_large p c s a h e some small =
    let least : p * 1 ≤ p * a = mul-le-mul_left p some in
    omega arith

-- no number below the cap has been taken ten times so often
pub never : (k s a : ℕ) → k ≡ 400 → s ≡ 10 ^ k * a → 0 < a → s < cap → ⊥
never k s a all e some small = too_large (10 ^ k) cap s a (rw all cap_small) e some small

-- ---- how often

less_one : (k : ℕ) → k < 400 → 400 - k ≡ suc (400 - (k + 1))
less_one k h = omega arith

pub raise_more : (k odd top s n : ℕ) → k < 400 → leb (s + odd) top ≡ true → k + raises (400 - k) odd top s ≡ n → (k + 1) + raises (400 - (k + 1)) odd top (10 * s) ≡ n
unfolding raises
raise_more k odd top s n h t e =
    let f : k + suc (raises (400 - (k + 1)) odd top (10 * s)) ≡ n = rw (less_one k h, t) at e in
    omega arith

pub raise_stop : (k odd top s n : ℕ) → k < 400 → leb (s + odd) top ≡ false → k + raises (400 - k) odd top s ≡ n → k ≡ n
unfolding raises
raise_stop k odd top s n h t e =
    let f : k + 0 ≡ n = rw (less_one k h, t) at e in
    omega arith

-- what `raise` needs
pub ruleset raising = (raise_more, raise_stop, power_more, never)

tens : (r u : ℕ) → 10 * r + 20 * u ≡ 10 * (r + 2 * u)
tens r u = omega arith

tens_apart : (r u : ℕ) → 10 * r + 2 * (10 * u) ≡ 10 * (r + 2 * u)
tens_apart r u = omega arith

pub lower_more : (k odd r u s n : ℕ) → k < 400 → leb (s + odd) (10 * r + 20 * u) ≡ false → k + lowers (400 - k) odd (r + 2 * u) s ≡ n
    → (k + 1) + lowers (400 - (k + 1)) odd (10 * r + 2 * (10 * u)) s ≡ n
unfolding lowers
lower_more k odd r u s n h t e =
    let t' : leb (s + odd) (10 * (r + 2 * u)) ≡ false = rw (tens r u) at t in
    let f : k + suc (lowers (400 - (k + 1)) odd (10 * (r + 2 * u)) s) ≡ n = rw (less_one k h, t') at e in
    rw (tens_apart r u) (omega arith)

pub lower_stop : (k odd r u s n : ℕ) → k < 400 → leb (s + odd) (10 * r + 20 * u) ≡ true → k + lowers (400 - k) odd (r + 2 * u) s ≡ n → k ≡ n
unfolding lowers
lower_stop k odd r u s n h t e =
    let t' : leb (s + odd) (10 * (r + 2 * u)) ≡ true = rw (tens r u) at t in
    let f : k + 0 ≡ n = rw (less_one k h, t') at e in
    omega arith

-- ---- a digit

pub cut_whole : (r d s n : ℕ) → r < s → r + d * s ≡ n → d ≡ n / s
cut_whole r d s n h e = sym (rw (← e, add-mul-div_right r d {z = s} (omega arith), div-eq_of_lt h) (omega arith))

pub cut_rest : (r d s n : ℕ) → r < s → r + d * s ≡ n → r ≡ n % s
cut_rest r d s n h e = sym (rw (← e, add-mul-mod_self_right r d s, mod-eq_of_lt h))

-- ---- a comparison as the code makes it

pub single : {t : Bool} (a b c : ℕ) → t ≡ leb (a + 0) (1 * b + 0 * c) → t ≡ leb a b
single a b c e =
    let f : a + 0 ≡ a = omega arith in
    let g : 1 * b + 0 * c ≡ b = omega arith in
    rw (f, g) at e

-- ---- the ending

module _ (low odd s r u : ℕ) where
  -- where the digits go on, the upper end is below one
  pub ending_open : None ≡ added (ending low odd s r u) → r + 2 * u < s + odd
  unfolding ending added
  ending_open h = grind (arith, nat_tests)

-- what is to be added
added_none : (e : ℕ) → None ≡ added e → 2 ≤ e
unfolding added
added_none e g = grind (arith, nat_tests)

pub added_some : (e m : ℕ) → Some m ≡ added e → (m ≡ e) × (e < 2)
unfolding added
added_some e m g = grind (arith, nat_tests)

-- ---- a turn of the digits

pub digits_small : (q d n : ℕ) → q + 1 ≤ 10 ^ n → d ≤ 9 → 10 * q + d + 1 ≤ 10 ^ (n + 1)
digits_small q d n h g = rw (add-one n, pow-succ' 10 n) (omega arith)

pub digits_fit : (q n : ℕ) → q + 1 ≤ 10 ^ n → n ≤ 17 → q + 1 ≤ 10 ^ 17
digits_fit q n h g =
    let most : 10 ^ n ≤ 10 ^ 17 = pow-le-pow_right (omega arith) g in
    omega arith

module _ (n low odd s q r u r₁ u₁ d : ℕ) (D : Digits) (h : n < 17) (er : r₁ ≡ 10 * r) (eu : u₁ ≡ 10 * u) (ed : d ≡ r₁ / s) (whole : shortest (17 - n) low odd s q n r u ≡ D) where
  turn : 17 - n ≡ suc (17 - (n + 1))
  turn = omega arith

  abbrev e : ℕ
  e = ending low odd s (r₁ % s) u₁

  opened : cond (ltb e 2) (record { number = 10 * q + d + e; count = suc n }) (shortest (17 - (n + 1)) low odd s (10 * q + d) (suc n) (r₁ % s) u₁) ≡ D
  unfolding shortest
  opened = rw (ed, er, eu) (rw turn at whole)

  pub shortest_more : None ≡ added e → shortest (17 - (n + 1)) low odd s (10 * q + d) (n + 1) (r₁ % s) u₁ ≡ D
  shortest_more g = rw (le-ltb e 2 (added_none e g), ← add-one n) at opened

  pub shortest_ends : (m : ℕ) → Some m ≡ added e → (10 * q + d + m ≡ D.number) × (n + 1 ≡ D.count)
  shortest_ends m g =
      let some = added_some e m g in
      let ended = rw (lt-ltb e 2 some.1, ← some.0) at opened in
      (ap (λ (x : Digits). x.number) ended, add-one n ∙ ap (λ (x : Digits). x.count) ended)

pub shortest_out : (n low odd s q r u : ℕ) (D : Digits) → n ≡ 17 → shortest (17 - n) low odd s q n r u ≡ D → (q ≡ D.number) × (n ≡ D.count)
unfolding shortest
shortest_out n low odd s q r u D all e =
    let none : 17 - n ≡ 0 = omega arith in
    let f = rw none at e in
    (ap (λ (x : Digits). x.number) f, ap (λ (x : Digits). x.count) f)

-- ---- a factor again and again

pub power_fits : (k i n a v c : ℕ) → 0 < k → i < n → v ≡ k ^ i * a → k ^ n * a < c → k * v < c
power_fits k i n a v c pos more e h =
    let most : k ^ (i + 1) * a ≤ k ^ n * a = mul-le-mul_right a (pow-le-pow_right {n = k} pos {j = n} (omega arith)) in
    omega (arith, most, power_more k i v a e)

-- ---- powers of two

sixteens : (k : ℕ) → 65536 ^ k ≡ 2 ^ (16 * k)
sixteens zero = refl
sixteens (suc k) =
    let e : 16 * suc k ≡ 16 + 16 * k = omega arith in
    rw (e, pow-add 2 16 (16 * k), pow-succ' 65536 k, sixteens k)

powers_apart : (n : ℕ) → 2 ^ (n % 16) * 65536 ^ (n / 16) ≡ 2 ^ n
powers_apart n =
    let a = sym (sixteens (n / 16)) in
    let b : n % 16 + 16 * (n / 16) ≡ n = omega arith in
    rw (← a, ← pow-add 2 (n % 16) (16 * (n / 16)), b)

pub shift_whole : (n v : ℕ) → 2 ^ (n % 16) * (65536 ^ (n / 16) * v) ≡ 2 ^ n * v
shift_whole n v = sym (mul_assoc (2 ^ (n % 16)) (65536 ^ (n / 16)) v) ∙ ap (λ (x : ℕ). x * v) (powers_apart n)

pub shift_fits : (n v c : ℕ) → 2 ^ n * v < c → 65536 ^ (n / 16) * v < c
shift_fits n v c h =
    let x = 65536 ^ (n / 16) * v in
    let least : 1 * x ≤ 2 ^ (n % 16) * x = mul-le-mul_right x (one-le-pow (n % 16) 2 (omega arith)) in
    omega (arith, shift_whole n v, least, one-mul x)

-- ---- how large a number and its distances become

pub unit_most : (p : ℕ) → p ≤ 2046 → 2 ^ (p - 1075) ≤ 2 ^ 971
unit_most p h = pow-le-pow_right {n = 2} (omega arith) {j = 971} (omega arith)

pub number_most : (m p : ℕ) → m < 2 ^ 53 → p ≤ 2046 → 2 ^ (p - 1075) * (4 * m) ≤ 2 ^ 1026
number_most m p h g =
    let quarter : 4 * m ≤ 2 ^ 55 = omega arith in
    mul-le-mul (unit_most p g) quarter

pub below_most : (p : ℕ) → 1 ≤ p → 2 ^ (1075 - p) * 4 ≤ 2 ^ 1076
below_most p h = mul-le-mul_right 4 (pow-le-pow_right {n = 2} (omega arith) {j = 1074} (omega arith))

pub ruleset sizes = (unit_most, number_most, below_most)

scaled : (s S c : ℕ) → s ≤ S → 10 * S < c → 10 * s < c
scaled s S c h g = omega arith

pub below_tens : (s : ℕ) → s ≤ 2 ^ 1076 → 10 * s < cap
unfolding cap
below_tens s h = scaled s (2 ^ 1076) (2 ^ 1152) h (lit< tt)

topped : (r u R U c : ℕ) → r ≤ R → u ≤ U → 100 * (R + 2 * U) < c → 100 * (r + 2 * u) < c
topped r u R U c h g k = omega arith

pub top_hundreds : (r u : ℕ) → r ≤ 2 ^ 1026 → u ≤ 2 ^ 971 → 100 * (r + 2 * u) < cap
unfolding cap
top_hundreds r u h g = topped r u (2 ^ 1026) (2 ^ 971) (2 ^ 1152) h g (lit< tt)
