-- The fixed numbers of document 01, each by the bits that a compiler makes of its literal. `table` says which fraction each of them is, rounded once;
-- that it is so is `Meanings.constants_mean`, in proofs/. Definitions only.
use Rattle.std.specs.Prelude.{List, [], ◌∷◌, ℕ, ◌*◌, ◌^◌, false, Float}
use Rattle.std.specs.Float.{binary64}
use Rattle.std.specs.Float.Ieee.{of_bits, round}

abbrev pub nought : Float
nought = of_bits binary64 0

abbrev pub one : Float
one = of_bits binary64 0x3ff0_0000_0000_0000

abbrev pub two : Float
two = of_bits binary64 0x4000_0000_0000_0000

abbrev pub hundred : Float
hundred = of_bits binary64 0x4059_0000_0000_0000

abbrev pub half : Float
half = of_bits binary64 0x3fe0_0000_0000_0000

abbrev pub quarter : Float
quarter = of_bits binary64 0x3fd0_0000_0000_0000

abbrev pub three_quarters : Float
three_quarters = of_bits binary64 0x3fe8_0000_0000_0000

abbrev pub eighth : Float
eighth = of_bits binary64 0x3fc0_0000_0000_0000

abbrev pub tenth : Float
tenth = of_bits binary64 0x3fb9_9999_9999_999a

abbrev pub four_fifths : Float
four_fifths = of_bits binary64 0x3fe9_9999_9999_999a

abbrev pub hundredth : Float
hundredth = of_bits binary64 0x3f84_7ae1_47ae_147b

abbrev pub thousandth : Float
thousandth = of_bits binary64 0x3f50_624d_d2f1_a9fc

abbrev pub half_thousandth : Float
half_thousandth = of_bits binary64 0x3f40_624d_d2f1_a9fc

abbrev pub hundred_millionth : Float
hundred_millionth = of_bits binary64 0x3e45_798e_e230_8c3a

abbrev pub billionth : Float
billionth = of_bits binary64 0x3e11_2e0b_e826_d695

abbrev pub ten_epsilons : Float
ten_epsilons = of_bits binary64 0x3ce4_0000_0000_0000

-- the share of a matrix's largest magnitude up to which a pivot counts as none
abbrev pub pivot_share : Float
pivot_share = of_bits binary64 0x3d70_0000_0000_0000

-- ---- what they mean

-- a constant, and the fraction that it is
pub record Meaning : Type 0 where
  pub constant : Float
  pub top : ℕ
  pub bottom : ℕ

abbrev pub ◌is◌over◌ : Float → ℕ → ℕ → Meaning
x is a over b = record { constant = x; top = a; bottom = b }

infix 20 ◌is◌over◌
-- the f64 nearest to a meaning's fraction
unfoldable pub meant : Meaning → Float
unfolding round
meant m = round binary64 false m.top m.bottom

unfoldable pub table : List Meaning
unfolding of_bits
table =
    (nought is 0 over 1)
    ∷ (one is 1 over 1)
    ∷ (two is 2 over 1)
    ∷ (hundred is 100 over 1)
    ∷ (half is 1 over 2)
    ∷ (quarter is 1 over 4)
    ∷ (three_quarters is 3 over 4)
    ∷ (eighth is 1 over 8)
    ∷ (tenth is 1 over 10)
    ∷ (four_fifths is 8 over 10)
    ∷ (hundredth is 10 over 10 ^ 3)
    ∷ (thousandth is 1 over 10 ^ 3)
    ∷ (half_thousandth is 1 over 2 * 10 ^ 3)
    ∷ (hundred_millionth is 1 over 10 ^ 8)
    ∷ (billionth is 1 over 10 ^ 9)
    ∷ (ten_epsilons is 10 over 2 ^ 52)
    ∷ (pivot_share is 1 over 2 ^ 40)
    ∷ []
