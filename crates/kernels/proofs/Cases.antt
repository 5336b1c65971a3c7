-- Inverses worked out over the definitions: a permutation's rows change places, a singular matrix is refused, a tie keeps its row, and each step rounds.
-- Then pivots at the bound: 2^-40 beside 1 is refused, in the first column or the second, whatever its sign and wherever the largest entry stands, and
-- the f64 above it is not; where the bound rounds to 0, only zeros are refused; the two thigh markers of request Two. Assumes nothing.
use mathlib.Core.Path.{◌≡◌, refl}
use mathlib.Core.Bool.{true, false}
use mathlib.Core.List.{List, [], ◌∷◌, map}
use Prim.Native.Nat.{ℕ, ◌*◌, ◌-◌}
use lib.IntN.{pos, negsuc}
use lib.Ieee.{Float, nan, inf, fin, add, sub, mul, div, neg, lt, le, eq, is_nan, of_bits}
use Rattle.float.specs.Numbers.{magnitude, finite, larger}
use Rattle.float.specs.Constants.{nought}
use Rattle.float.proofs.Patterns.{magnitude_zero}
use Rattle.vectors.specs.Vector.{tab, zeros, all_finite, over, less, flat, dot, dot_to, largest_to, largest}
use Rattle.vectors.specs.Refusal.{Answer, refused, given, size, room}
use Rattle.vectors.specs.declared.refusal.Refusal.TheVariants.{Pivot}
use Rattle.kernels.specs.Inverse.{start, pivot_among, pivot_bound, no_pivot, swapped, divided, cleared_row, cleared, column_by, column, columns, eliminated, right_row, inverse_answer}

record Case : Type 0 where
  n : ℕ
  matrix : List Float
  inverse : Answer (List Float)

abbrev ◌by◌gives◌ : ℕ → List Float → Answer (List Float) → Case
n by matrix gives inverse = record { n = n; matrix = matrix; inverse = inverse }

infix 20 ◌by◌gives◌
-- +0, and 2 ^ k
abbrev o : Float
o = fin false 0 (pos 0)

abbrev p : ℕ → Float
p k = fin false 1 (pos k)

-- 2 ^ -k, for a k above 0
abbrev h : ℕ → Float
h k = fin false 1 (negsuc (k - 1))

cases : List Case
cases =
    (2 by o ∷ p 1 ∷ p 2 ∷ o ∷ [] gives given (o ∷ fin false 1 (negsuc 1) ∷ fin false 1 (negsuc 0) ∷ o ∷ []))
    ∷ (2 by p 0 ∷ p 1 ∷ p 1 ∷ p 2 ∷ [] gives refused Pivot)
    ∷ (3 by p 1 ∷ p 0 ∷ p 0 ∷ p 2 ∷ fin true 3 (pos 1) ∷ o ∷ fin true 1 (pos 1) ∷ fin false 7 (pos 0) ∷ p 1 ∷ [] gives
    given
    (fin false 3 (negsuc 1) ∷ fin true 5 (negsuc 3) ∷ fin true 3 (negsuc 2)
    ∷ fin false 1 (negsuc 0) ∷ fin true 3 (negsuc 2) ∷ fin true 1 (negsuc 1)
    ∷ fin true 1 (pos 0) ∷ p 0 ∷ p 0 ∷ []))
    ∷ (3 by fin false 3 (pos 0) ∷ p 0 ∷ p 1 ∷ p 0 ∷ fin false 7 (pos 0) ∷ fin true 5 (pos 0) ∷ fin false 1 (negsuc 0) ∷ p 1 ∷ fin false 9 (pos 0) ∷ [] gives
    given
    (fin false 803820960386421 (negsuc 50) ∷ fin true 7047197460922047 (negsuc 57) ∷ fin true 6694837587875945 (negsuc 55)
    ∷ fin true 4052138540030177 (negsuc 55) ∷ fin false 4580678349599331 (negsuc 54) ∷ fin false 5990117841783741 (negsuc 55)
    ∷ fin true 8456636953106457 (negsuc 59) ∷ fin true 1937979301753563 (negsuc 55) ∷ fin false 110112460326907 (negsuc 49) ∷ []))
    ∷ (2 by p 0 ∷ o ∷ o ∷ h 40 ∷ [] gives refused Pivot)
    ∷ (2 by o ∷ fin true 1 (pos 3) ∷ fin true 1 (negsuc 36) ∷ o ∷ [] gives refused Pivot)
    ∷ (2 by p 0 ∷ o ∷ o ∷ fin false 4503599627370497 (negsuc 91) ∷ [] gives given (p 0 ∷ o ∷ o ∷ fin false 4503599627370495 (negsuc 11) ∷ []))
    ∷ (1 by h 1074 ∷ [] gives given (inf false ∷ []))
    ∷ (2 by o ∷ o ∷ o ∷ o ∷ [] gives refused Pivot)
    ∷ (2 by p 0 ∷ p 0 ∷ p 0 ∷ fin false 4503599627370497 (negsuc 51) ∷ [] gives refused Pivot)
    ∷ []

answer : Case → Answer (List Float)
answer c = inverse_answer c.n c.matrix (zeros (c.n * c.n)) (zeros (room c.n))

inverses : map answer cases ≡ map (λ (c : Case). c.inverse) cases
unfolding cases answer inverse_answer eliminated columns column column_by pivot_among pivot_bound no_pivot swapped divided cleared_row cleared start right_row tab zeros all_finite over less flat size largest largest_to larger magnitude finite sub mul div neg lt le eq is_nan of_bits
inverses = refl

-- A dot starts at +0: that of −0 and 1 is +0.
dot_of_zero : dot (fin true 0 (pos 0) ∷ []) (fin false 1 (pos 0) ∷ []) ≡ fin false 0 (pos 0)
unfolding dot dot_to add mul of_bits
dot_of_zero = refl

-- ---- which pivots are refused

-- "Where the product rounds to 0 the rule is the old one": only zeros are refused.
pub no_pivot_zero : (x : Float) → no_pivot nought x ≡ eq x nought
unfolding no_pivot
no_pivot_zero x = magnitude_zero x

-- a pivot that is a NaN goes on, whatever the bound
pub no_pivot_nan : (bound : Float) → no_pivot bound nan ≡ false
unfolding no_pivot magnitude le lt eq
no_pivot_nan bound = refl
