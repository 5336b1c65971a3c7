-- Laws of tests and sizes. Assumes nothing.
use mathlib.Core.Path.{◌≡◌, refl, sym, ◌∙◌}
use mathlib.Core.Bool.{Bool, true, false, ◌&&◌}
use mathlib.Core.List.{List, [], ◌∷◌}
use Prim.Native.Nat.{ℕ, ◌+◌, ◌*◌, ◌<◌, ◌≤◌}
use native.Mathlib.Nat.{mul-le-mul_right}
use native.Mathlib.Omega.{arith}
use lib.Dec.{eqb, leb}
use Rattle.std.specs.Prelude.{Ok}
use Rattle.vectors.specs.declared.refusal.Refusal.{Refusal}
use lib.ListN.{length}
use lib.Ieee.{Float}
use borrow.Author.Tests.{eqb-true, leb-true, le-leb, lt-ltb, eq-eqb}
use Rattle.vectors.specs.Vector.{row}
use Rattle.vectors.specs.Refusal.{checked, all_hold, size, Square}
use Rattle.vectors.specs.Calls.{row_part}
use Rattle.vectors.proofs.Slots.{before, length_slot}

-- a test t that the code has in a flag r, in the arms of `if !r`
pub failed : {r t : Bool} → r ≡ t → r ≡ false → t ≡ false
failed e h = sym e ∙ h

pub passed : {r t : Bool} → r ≡ t → r ≡ true → t ≡ true
passed e h = sym e ∙ h

-- what was asked by `?` was right
pub was_right : (r : Refusal) (b : Bool) {u : Unit {0}} → Ok u ≡ checked r b → b ≡ true
was_right r true e = refl
was_right r false e = cc

pub both : (a b : Bool) → (a && b) ≡ true → (a ≡ true) × (b ≡ true)
both true b e = (refl, e)
both false b e = (e, cc)

pub and_assoc : (a b c : Bool) → ((a && b) && c) ≡ (a && (b && c))
and_assoc true b c = refl
and_assoc false b c = refl

pub and_true : (a : Bool) → (a && true) ≡ a
and_true true = refl
and_true false = refl

-- ---- lists of tests

-- each of them
abbrev pub Each : List Bool → Type 0
Each [] = Unit {0}
Each (b ∷ bs) = (b ≡ true) × Each bs

pub each_holds : (bs : List Bool) → all_hold bs ≡ true → Each bs
each_holds [] e = tt
each_holds (b ∷ bs) e = let p = both b (all_hold bs) e in (p.0, each_holds bs p.1)

-- ---- n·n is small, and rows lie within it

pub square_small : (n : ℕ) → n ≤ 64 → n * n ≤ 4096
square_small n h = omega (arith, mul-le-mul_right n h)

pub row_inside : (n i : ℕ) → i < n → i * n + n ≤ n * n
row_inside n i h = before n i n h

-- ---- the tests as facts

pub size_true : (n : ℕ) → size n ≡ true → (1 ≤ n) × (n ≤ 64)
unfolding size
size_true n e = let b = both (leb 1 n) (leb n 64) e in (leb-true 1 n b.0, leb-true n 64 b.1)

pub size_small : (n : ℕ) → size n ≡ true → (n * n ≤ 4096) × (n ≤ 64)
size_small n e = let s = size_true n e in (square_small n s.1, s.1)

pub square_by : (n len : ℕ) → size n ≡ true → eqb len (n * n) ≡ true → Square n len
square_by n len a b = let s = size_true n a in record { low = s.0; high = s.1; long = eqb-true len (n * n) b }

pub square_true : (n len : ℕ) → all_hold (size n ∷ eqb len (n * n) ∷ []) ≡ true → Square n len
square_true n len e =
    let t = each_holds (size n ∷ eqb len (n * n) ∷ []) e in
    square_by n len t.0 t.1.0

pub size_test : {n len : ℕ} → Square n len → size n ≡ true
unfolding size
size_test {n} s = simp (le-leb 1 n s.low, le-leb n 64 s.high)

pub vectors_true : (n a b : ℕ) → all_hold (size n ∷ eqb a n ∷ eqb b n ∷ []) ≡ true → (a ≡ n) × (b ≡ n)
vectors_true n a b e = let h = each_holds (size n ∷ eqb a n ∷ eqb b n ∷ []) e in (eqb-true a n h.1.0, eqb-true b n h.1.1.0)

-- a matrix and two vectors
pub record Shaped (n h a b : ℕ) : Type 0 where
  pub square : Square n h
  pub first : a ≡ n
  pub second : b ≡ n

pub shaped_true : (n h a b : ℕ) → all_hold (size n ∷ eqb h (n * n) ∷ eqb a n ∷ eqb b n ∷ []) ≡ true → Shaped n h a b
shaped_true n h a b e =
    let t = each_holds (size n ∷ eqb h (n * n) ∷ eqb a n ∷ eqb b n ∷ []) e in
    record { square = square_by n h t.0 t.1.0; first = eqb-true a n t.1.1.0; second = eqb-true b n t.1.1.1.0 }

-- ---- rows

module _ (n : ℕ) (H : List Float) (i : ℕ) (s : Square n (length H)) (l : i < n) where
  pub row_good : row_part n H i ≡ row n H i
  row_good = rw (size_test s, eq-eqb (length H) (n * n) s.long, lt-ltb i n l)

  pub length_row : length (row n H i) ≡ n
  length_row = length_slot H n i (omega (arith, row_inside n i l, s.long))
