-- The decimal text of an f64, told by its pattern: the shortest digits that read back as it, positional from 1e-5 up to below 1e16 and scientific
-- otherwise. Definitions only.
use Rattle.std.specs.Prelude.{ℕ, zero, suc, ◌+◌, ◌-◌, ◌/◌, ◌%◌, ◌^◌, Bool, true, false, cond, List, [], ◌∷◌, ◌++◌, leb, ltb, eqb, length}
use Rattle.words.specs.Words.{fits_at}
use Rattle.words.specs.Ascii.{ascii}
use Rattle.shortest.specs.Digits.{digits_of}

-- ---- the parts of a text

-- the `count` lowest digits of a number, the highest first
unfoldable pub digits : ℕ → ℕ → List ℕ
digits zero number = []
digits (suc count) number = digits count (number / 10) ++ ((48 + number % 10) ∷ [])

unfoldable pub sign : Bool → List ℕ
sign minus = cond minus (ascii "-") []

-- a point and the `places` lowest digits of a number; nothing, where there are to be none
unfoldable pub behind : ℕ → ℕ → List ℕ
behind number places = cond (eqb places 0) [] (ascii "." ++ digits places number)

-- a number with `whole` digits before a point and its `places` lowest digits behind it
unfoldable pub pointed : ℕ → ℕ → ℕ → List ℕ
pointed number whole places = digits whole (number / 10 ^ places) ++ behind number places

-- how many digits an exponent has: none has more than three
unfoldable pub width : ℕ → ℕ
width e = cond (ltb e 10) 1 (cond (ltb e 100) 2 3)

unfoldable pub exponent : Bool → ℕ → List ℕ
exponent minus e = ascii "e" ++ sign minus ++ digits (width e) e

-- ---- the number 0.DIGITS times 10 to the raised less the lowered; there are `count` digits, and `number` is the whole number of them

-- one digit before the point, and how many places it is to move
unfoldable pub scientific : ℕ → ℕ → Bool → ℕ → List ℕ
scientific number count minus e = pointed number 1 (count - 1) ++ exponent minus e

-- the digits with the point where it belongs: behind a zero, behind the digits and zeros that are missing, or among the digits
unfoldable pub positional : ℕ → ℕ → ℕ → ℕ → List ℕ
positional number count raised lowered =
    cond (eqb raised 0) (pointed number 1 (count + lowered))
    (cond (leb count raised) (digits count number ++ digits (raised - count) 0)
    (pointed number raised (count - raised)))

-- scientific where the number is 1e16 or more, or below 1e-5
unfoldable pub laid : ℕ → ℕ → ℕ → ℕ → List ℕ
laid number count raised lowered =
    cond (ltb 16 raised) (scientific number count false (raised - 1))
    (cond (ltb 4 lowered) (scientific number count true (lowered + 1))
    (positional number count raised lowered))

-- ---- the f64 of a pattern

abbrev pub infinite : ℕ
infinite = 0x7ff0_0000_0000_0000

-- the text of a pattern without its sign
unfoldable pub unsigned : ℕ → List ℕ
unsigned size =
    cond (eqb size infinite) (ascii "inf")
    (cond (eqb size 0) (ascii "0")
    (laid (digits_of size).number (digits_of size).count (digits_of size).raised (digits_of size).lowered))

-- the text of a pattern; a NaN has no sign
unfoldable pub text : ℕ → List ℕ
text bits = cond (ltb infinite (bits % 2 ^ 63)) (ascii "nan") (sign (leb (2 ^ 63) bits) ++ unsigned (bits % 2 ^ 63))

-- the length of a text that has been written to the front of bytes: 0 where it has no room there
unfoldable pub told : List ℕ → List ℕ → ℕ
told bytes text = cond (fits_at bytes 0 (length text)) (length text) 0
