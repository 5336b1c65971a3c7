-- Vectors of n numbers that stand side by side in one list. Definitions only.
use Rattle.std.specs.Prelude.{◌≡◌, cond, List, ℕ, ◌*◌, eqb, take, drop, Float}

-- slot k: the k-th run of n numbers
unfoldable pub slot : List Float → ℕ → ℕ → List Float
slot w n k = take n (drop (k * n) w)

-- w' has the vector v in slot k; every other slot is as it was in w
abbrev pub Puts : List Float → ℕ → ℕ → List Float → List Float → Type 0
Puts w n k v w' = (j : ℕ) → slot w' n j ≡ cond (eqb j k) v (slot w n j)
