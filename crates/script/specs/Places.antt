-- Words at their places. Definitions only.
use Rattle.std.specs.Prelude.{List, ℕ, get_or, Float}
use Rattle.std.specs.Float.{binary64}
use Rattle.std.specs.Float.Ieee.{of_bits}
use Rattle.vectors.specs.Vector.{tab}

-- word i, as it stands and as a number; one that is missing is 0
abbrev pub word : List ℕ → ℕ → ℕ
word words i = get_or words i 0

abbrev pub number : List ℕ → ℕ → Float
number words i = of_bits binary64 (word words i)

-- the first k words as numbers
unfoldable pub numbers : List ℕ → (k : ℕ) → List Float
unfolding tab
numbers words k = tab k (number words)
