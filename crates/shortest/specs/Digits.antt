-- The shortest decimal digits that read back as an f64, in whole numbers. Definitions only.
--
-- A number is r / s. What lies between (r − low · u) / s and (r + 2 · u) / s is nearer to it than to any other f64; the two ends read back as it too where
-- its mantissa is even, which `odd` tells: 0 there and 1 otherwise.
use Rattle.std.specs.Prelude.{ℕ, zero, suc, ◌+◌, ◌-◌, ◌*◌, ◌/◌, ◌%◌, ◌^◌, ◌≤◌, ◌≡◌, cond, leb, ltb, eqb, Option, None, Some}

-- what is told of a number, by these names
pub record Parts : Type 0 where
  pub r : ℕ
  pub s : ℕ
  pub u : ℕ
  pub low : ℕ
  pub odd : ℕ

-- ---- where the first digit stands

-- how often s is to be taken ten times until the upper end, top / s, is below one
unfoldable pub raises : ℕ → ℕ → ℕ → ℕ → ℕ
raises zero odd top s = 0
raises (suc left) odd top s = cond (leb (s + odd) top) (suc (raises left odd top (10 * s))) 0

-- how often the number is to be taken ten times until its upper end is not below a tenth
unfoldable pub lowers : ℕ → ℕ → ℕ → ℕ → ℕ
lowers zero odd top s = 0
lowers (suc left) odd top s = cond (leb (s + odd) (10 * top)) 0 (suc (lowers left odd (10 * top) s))

-- ---- the digits

-- What a decimal cut before the rest r / s makes of it: 0 where it reads back as it stands, 1 where it does so one above, and the nearer of these two
-- where both do; 2 where it needs another digit.
unfoldable pub ending : ℕ → ℕ → ℕ → ℕ → ℕ → ℕ
ending low odd s r u =
    cond (leb (r + odd) (low * u))
    (cond (leb (s + odd) (r + 2 * u)) (cond (leb s (2 * r)) 1 0) 0)
    (cond (leb (s + odd) (r + 2 * u)) 1 2)

-- what is to be added to the digits so far, where they are all
unfoldable pub added : ℕ → Option ℕ
added ending = cond (ltb ending 2) (Some ending) None

pub record Digits : Type 0 where
  pub number : ℕ
  pub count : ℕ

-- the digits of r / s behind the n digits of q, one a turn, until they read back
unfoldable pub shortest : ℕ → ℕ → ℕ → ℕ → ℕ → ℕ → ℕ → ℕ → Digits
shortest zero low odd s q n r u = record { number = q; count = n }
shortest (suc left) low odd s q n r u =
    cond (ltb (ending low odd s (10 * r % s) (10 * u)) 2)
    (record { number = 10 * q + 10 * r / s + ending low odd s (10 * r % s) (10 * u); count = suc n })
    (shortest left low odd s (10 * q + 10 * r / s) (suc n) (10 * r % s) (10 * u))

-- the digits, and how often s or the number was taken ten times before: the number is 0.DIGITS times 10 to the raised less the lowered
pub record Found : Type 0 where
  pub number : ℕ
  pub count : ℕ
  pub raised : ℕ
  pub lowered : ℕ

-- a result that has been found: no f64 needs more than 17 digits
pub record Is (d : Found) (number count raised lowered : ℕ) : Type 0 where
  pub same_number : number ≡ d.number
  pub same_count : count ≡ d.count
  pub same_raised : raised ≡ d.raised
  pub same_lowered : lowered ≡ d.lowered
  pub some : 1 ≤ count
  pub few : count ≤ 17
  pub near : lowered ≤ 400

unfoldable pub find : ℕ → ℕ → ℕ → ℕ → ℕ → Found
find low odd r s u =
    let a = raises 400 odd (r + 2 * u) s in
    let b = lowers 400 odd (r + 2 * u) (10 ^ a * s) in
    let d = shortest 17 low odd (10 ^ a * s) 0 0 (10 ^ b * r) (10 ^ b * u) in
    record { number = d.number; count = d.count; raised = a; lowered = b }

-- The number mantissa · 2^(power − 1075). Its neighbours are 2^(power − 1075) away, and the one below half of that where low is 1: a quarter of that
-- is u / s, and the ends of what reads back lie two quarters above it and `low` quarters below.
unfoldable pub between : ℕ → ℕ → ℕ → Found
between mantissa power low =
    find low (mantissa % 2) (2 ^ (power - 1075) * (4 * mantissa)) (2 ^ (1075 - power) * 4) (2 ^ (power - 1075))

-- ---- the f64 of a pattern

-- how many quarters below: at a power of two the number below is nearer, but for the smallest of them that is normal
unfoldable pub quarters : ℕ → ℕ → ℕ
quarters field fraction = cond (ltb 0 fraction) 2 (cond (ltb 1 field) 1 2)

-- the digits of a finite number that is not below zero: a subnormal number's mantissa is its fraction. Other patterns count as 0
unfoldable pub digits_of : ℕ → Found
digits_of bits =
    cond (ltb 2046 (bits / 2 ^ 52)) (between 0 1 2)
    (cond (eqb (bits / 2 ^ 52) 0) (between (bits % 2 ^ 52) 1 2)
    (between (2 ^ 52 + bits % 2 ^ 52) (bits / 2 ^ 52) (quarters (bits / 2 ^ 52) (bits % 2 ^ 52))))
