-- The arithmetic of document 01: each operation of IEEE 754's binary64 rounds once, and nothing is fused. Definitions only.
use Rattle.std.specs.Prelude.{Bool, true, false, cond, ◌||◌, Float}
use Rattle.std.specs.Float.{nan, inf, fin, binary64}
use Rattle.std.specs.Float.Ieee.{add, sub, mul, div, lt, is_nan}

infixl 65 ◌⊕◌
infixl 65 ◌⊖◌
infixl 70 ◌⊗◌
infixl 70 ◌⊘◌
abbrev pub ◌⊕◌ : Float → Float → Float
x ⊕ y = add binary64 x y

abbrev pub ◌⊖◌ : Float → Float → Float
x ⊖ y = sub binary64 x y

abbrev pub ◌⊗◌ : Float → Float → Float
x ⊗ y = mul binary64 x y

abbrev pub ◌⊘◌ : Float → Float → Float
x ⊘ y = div binary64 x y

-- "Square is x·x, cube (x·x)·x."
abbrev pub square : Float → Float
square x = x ⊗ x

abbrev pub cube : Float → Float
cube x = x ⊗ x ⊗ x

-- neither a NaN nor an infinity
unfoldable pub finite : Float → Bool
finite nan = false
finite (inf s) = false
finite (fin s m e) = true

-- the number without its sign, a zero's too
unfoldable pub magnitude : Float → Float
magnitude nan = nan
magnitude (inf s) = inf false
magnitude (fin s m e) = fin false m e

-- The smaller of x and y, and x where they are equal or y is a NaN: Rust's x.min(y) for an x that is no NaN.
unfoldable pub smaller : Float → Float → Float
smaller x y = cond (lt y x) y x

-- the larger of x and y, and a NaN where one of them is
unfoldable pub larger : Float → Float → Float
unfolding lt is_nan
larger x y = cond (is_nan x || lt y x) x y
