-- No text is longer than 24 bytes. Assumes nothing.
use mathlib.Core.Bool.{Bool, true, false}
use mathlib.Core.List.{List}
use Prim.Native.Nat.{ℕ, zero, suc, ◌+◌, ◌-◌, ◌*◌, ◌/◌, ◌%◌, ◌^◌, ◌≤◌}
use native.Mathlib.Omega.{arith}
use borrow.Author.Tests.{ltb-false, leb-true, leb-false}
use lib.Dec.{leb, ltb, eqb}
use lib.ListN.{length, length-append}
use Rattle.shortest.specs.Digits.{Digits, Found, raises, lowers, ending, shortest, find, between, digits_of}
use Rattle.decimal.specs.Text.{sign, behind, pointed, width, exponent, scientific, positional, laid, infinite, unsigned, text}
use Rattle.std.proofs.lemmas.Grind.{common_steps}
use Rattle.decimal.proofs.Puts.{by_test, length_digits}

-- ---- there are 1 to 17 digits, and no exponent has more than three

counted : (left low odd s q n r u : ℕ) → (suc n ≤ (shortest (suc left) low odd s q n r u).count) × ((shortest (suc left) low odd s q n r u).count ≤ n + suc left)
unfolding shortest
counted zero low odd s q n r u =
    by_test (λ (d : Digits). (suc n ≤ d.count) × (d.count ≤ n + 1)) (ltb (ending low odd s (10 * r % s) (10 * u)) 2)
    (λ e. (omega arith, omega arith)) (λ e. (omega arith, omega arith))
counted (suc left) low odd s q n r u =
    by_test (λ (d : Digits). (suc n ≤ d.count) × (d.count ≤ n + suc (suc left))) (ltb (ending low odd s (10 * r % s) (10 * u)) 2)
    (λ e. (omega arith, omega arith))
    (λ e. let rest = counted left low odd s (10 * q + 10 * r / s) (suc n) (10 * r % s) (10 * u) in (omega arith, omega arith))

raised_few : (left odd top s : ℕ) → raises left odd top s ≤ left
unfolding raises
raised_few zero odd top s = omega arith
raised_few (suc left) odd top s = by_test (λ (k : ℕ). k ≤ suc left) (leb (s + odd) top) (λ e. omega (arith, raised_few left odd top (10 * s))) (λ e. omega arith)

lowered_few : (left odd top s : ℕ) → lowers left odd top s ≤ left
unfolding lowers
lowered_few zero odd top s = omega arith
lowered_few (suc left) odd top s = by_test (λ (k : ℕ). k ≤ suc left) (leb (s + odd) (10 * top)) (λ e. omega arith) (λ e. omega (arith, lowered_few left odd (10 * top) s))

pub record Few (d : Found) : Type 0 where
  pub some : 1 ≤ d.count
  pub few : d.count ≤ 17
  pub high : d.raised ≤ 400
  pub low : d.lowered ≤ 400

between_few : (mantissa power low : ℕ) → Few (between mantissa power low)
unfolding between find
between_few mantissa power low =
    let all = counted 16 low _ _ 0 0 _ _ in
    record { some = all.0; few = all.1; high = raised_few 400 _ _ _; low = lowered_few 400 _ _ _ }

pub digits_few : (bits : ℕ) → Few (digits_of bits)
unfolding digits_of
digits_few bits =
    by_test Few (ltb 2046 (bits / 2 ^ 52)) (λ e. between_few 0 1 2)
    (λ e. by_test Few (eqb (bits / 2 ^ 52) 0) (λ f. between_few (bits % 2 ^ 52) 1 2) (λ f. between_few _ _ _))

-- ---- the parts

abbrev pub Within : ℕ → List ℕ → Type 0
Within most text = length text ≤ most

behind_short : (number places : ℕ) → Within (places + 1) (behind number places)
unfolding behind
behind_short number places = by_test (Within (places + 1)) (eqb places 0) (λ e. omega arith) (λ e. omega (arith, length_digits places number))

pub pointed_short : (number whole places : ℕ) → Within (whole + places + 1) (pointed number whole places)
unfolding pointed
pointed_short number whole places = simp (length-append, length_digits) (omega (arith, behind_short number places))

pub sign_short : (minus : Bool) → Within 1 (sign minus)
unfolding sign
sign_short true = omega arith
sign_short false = omega arith

pub width_short : (e : ℕ) → width e ≤ 3
unfolding width
width_short e = by_test (λ (w : ℕ). w ≤ 3) (ltb e 10) (λ f. omega arith) (λ f. by_test (λ (w : ℕ). w ≤ 3) (ltb e 100) (λ g. omega arith) (λ g. omega arith))

exponent_short : (minus : Bool) (e : ℕ) → Within 5 (exponent minus e)
unfolding exponent
exponent_short minus e = simp (length-append, length_digits) (omega (arith, sign_short minus, width_short e))

-- how long the parts are, for those who put one behind another
pub ruleset lengths = (common_steps, length_digits, sign_short, width_short, pointed_short)

module _ (number count : ℕ) (some : 1 ≤ count) (few : count ≤ 17) where
  scientific_short : (minus : Bool) (e : ℕ) → Within 23 (scientific number count minus e)
  unfolding scientific
  scientific_short minus e = simp length-append (omega (arith, pointed_short number 1 (count - 1), exponent_short minus e))

  positional_short : (raised lowered : ℕ) → raised ≤ 16 → lowered ≤ 4 → Within 23 (positional number count raised lowered)
  unfolding positional
  positional_short raised lowered up down =
      by_test (Within 23) (eqb raised 0) (λ e. omega (arith, pointed_short number 1 (count + lowered)))
      (λ e. by_test (Within 23) (leb count raised)
      (λ f. simp (length-append, length_digits) (omega (arith, leb-true count raised f)))
      (λ f. omega (arith, pointed_short number raised (count - raised), leb-false count raised f)))

  laid_short : (raised lowered : ℕ) → Within 23 (laid number count raised lowered)
  unfolding laid
  laid_short raised lowered =
      by_test (Within 23) (ltb 16 raised) (λ e. scientific_short false (raised - 1))
      (λ e. by_test (Within 23) (ltb 4 lowered) (λ f. scientific_short true (lowered + 1))
      (λ f. positional_short raised lowered (ltb-false 16 raised e) (ltb-false 4 lowered f)))

unsigned_short : (size : ℕ) → Within 23 (unsigned size)
unfolding unsigned
unsigned_short size =
    by_test (Within 23) (eqb size infinite) (λ e. omega arith)
    (λ e. by_test (Within 23) (eqb size 0) (λ f. omega arith) (λ f. let d = digits_few size in laid_short _ _ d.some d.few _ _))

pub short : (bits : ℕ) → length (text bits) ≤ 24
unfolding text
short bits =
    by_test (Within 24) (ltb infinite (bits % 2 ^ 63)) (λ e. omega arith)
    (λ e. simp length-append (omega (arith, sign_short (leb (2 ^ 63) bits), unsigned_short (bits % 2 ^ 63))))
