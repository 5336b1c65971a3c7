-- "Inverse: Gauss-Jordan on [H | I]." Definitions only.
use Rattle.std.specs.Prelude.{Bool, cond, not, List, [], ◌∷◌, ℕ, zero, suc, ◌+◌, ◌*◌, ◌-◌, eqb, ltb, Float}
use Rattle.std.specs.Float.Ieee.{lt, le}
use Rattle.float.specs.Numbers.{◌⊗◌, magnitude}
use Rattle.float.specs.Constants.{nought, one, pivot_share}
use Rattle.vectors.specs.Slots.{slot}
use Rattle.vectors.specs.Vector.{at, tab, over, less, dot, flat, all_finite, largest}
use Rattle.vectors.specs.Refusal.{Answer, refused, given, Check, ◌if◌, unless, then, all_hold, size, sized, room}
use Rattle.vectors.specs.declared.refusal.Refusal.TheVariants.{Size, Entry, Pivot}

-- The rows under way. Row i has 2·n numbers: a row of the left half, and the same row of the right half.
abbrev pub Rows : Type 0
Rows = ℕ → List Float

abbrev pub entry : Rows → ℕ → ℕ → Float
entry R i j = at (R i) j

-- R with v as row k
abbrev pub with_row : Rows → ℕ → List Float → Rows
with_row R k v i = cond (eqb i k) v (R i)

-- number k of row i of [H | I]
abbrev pub start_entry : ℕ → List Float → ℕ → ℕ → Float
start_entry n H i k = cond (ltb k n) (at H (i * n + k)) (cond (eqb k (n + i)) one nought)

-- [H | I], n rows
unfoldable pub start : ℕ → List Float → Rows
unfolding tab
start n H i = cond (ltb i n) (tab (n + n) (start_entry n H i)) []

-- "For column j the pivot row starts at j and moves down to a row of strictly larger magnitude": here among the k rows below row j.
unfoldable pub pivot_among : Rows → ℕ → ℕ → ℕ
unfolding magnitude
pivot_among R j zero = j
pivot_among R j (suc k) =
    let p = pivot_among R j k in
    let i = suc j + k in
    cond (lt (magnitude (entry R p j)) (magnitude (entry R i j))) i p

abbrev pub pivot_row : ℕ → Rows → ℕ → ℕ
pivot_row n R j = pivot_among R j (n - suc j)

-- "2^-40 times the largest magnitude in H, taken before elimination begins; the product rounds once"
unfoldable pub pivot_bound : List Float → Float
unfolding largest
pivot_bound H = pivot_share ⊗ largest H

-- "refusal 6 is given when the pivot's magnitude is at most" that bound. A pivot that is a NaN is not: it goes on.
unfoldable pub no_pivot : (bound x : Float) → Bool
unfolding magnitude le
no_pivot bound x = le (magnitude x) bound

-- "Swap": rows j and p
unfoldable pub swapped : Rows → ℕ → ℕ → Rows
swapped R j p = with_row (with_row R j (R p)) p (R j)

-- "divide the row by the pivot": row j, its pivot in column j
unfoldable pub divided : ℕ → Rows → ℕ → Rows
unfolding over
divided n R j = with_row R j (over (n + n) (R j) (entry R j j))

-- from row i, "take away entry(i, j), read beforehand, times row j"
unfoldable pub cleared_row : ℕ → Rows → ℕ → ℕ → Rows
unfolding less
cleared_row n R j i = with_row R i (less (n + n) (R i) (entry R i j) (R j))

-- "from each other row i, in rising order": here from those among the first k
unfoldable pub cleared : ℕ → Rows → ℕ → ℕ → Rows
unfolding cleared_row
cleared n R j zero = R
cleared n R j (suc i) = let S = cleared n R j i in cond (eqb i j) S (cleared_row n S j i)

-- column j, p its pivot row
unfoldable pub column_by : (bound : Float) → ℕ → Rows → ℕ → ℕ → Answer Rows
unfolding no_pivot swapped divided cleared
column_by bound n R j p = cond (no_pivot bound (entry R p j)) (refused Pivot) (given (cleared n (divided n (swapped R j p) j) j n))

unfoldable pub column : (bound : Float) → ℕ → Rows → ℕ → Answer Rows
unfolding column_by pivot_among
column bound n R j = column_by bound n R j (pivot_row n R j)

-- k columns, from column j on
unfoldable pub columns : (bound : Float) → ℕ → ℕ → ℕ → Rows → Answer Rows
unfolding column
columns bound n zero j R = given R
columns bound n (suc k) j R = then (columns bound n k (suc j)) (column bound n R j)

-- all columns of [H | I]
unfoldable pub eliminated : ℕ → List Float → Answer Rows
unfolding columns start pivot_bound
eliminated n H = columns (pivot_bound H) n n 0 (start n H)

-- the right half of row i: once all columns are done, row i of the inverse
unfoldable pub right_row : ℕ → Rows → ℕ → List Float
unfolding tab
right_row n R i = tab n (λ k. entry R i (n + k))

-- the product of the inverse and g: its number i, and all of it
abbrev pub inverse_times_at : ℕ → Rows → List Float → ℕ → Float
inverse_times_at n R g i = dot (right_row n R i) g

unfoldable pub inverse_times : ℕ → Rows → List Float → List Float
unfolding tab dot right_row
inverse_times n R g = tab n (inverse_times_at n R g)

-- ---- the call

abbrev pub inverse_checks : ℕ → (H out scratch : List Float) → List Check
inverse_checks n H out scratch =
    (Size if not (all_hold (size n ∷ sized (n * n) H ∷ sized (n * n) out ∷ sized (room n) scratch ∷ [])))
    ∷ (Entry if not (all_finite H))
    ∷ []

unfoldable pub inverse_answer : ℕ → (H out scratch : List Float) → Answer (List Float)
unfolding eliminated right_row flat
inverse_answer n H out scratch = unless (inverse_checks n H out scratch) (then (λ R. given (flat n (right_row n R))) (eliminated n H))

-- ---- where a scratch has the rows: row i is its slot 4 + i of 2·n numbers

abbrev pub rows_in : List Float → ℕ → Rows
rows_in w n i = slot w (n + n) (4 + i)
