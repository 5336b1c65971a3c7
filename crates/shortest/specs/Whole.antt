-- Whole numbers of 36 limbs, the lowest first, each below 2^32. Definitions only.
use Rattle.std.specs.Prelude.{ℕ, ◌+◌, ◌*◌, ◌^◌, List, [], ◌∷◌}

-- the whole number that limbs are
unfoldable pub value : List ℕ → ℕ
value [] = 0
value (l ∷ ls) = l + 2 ^ 32 * value ls

-- what 36 limbs cannot hold any more
unfoldable pub cap : ℕ
cap = 2 ^ 1152
