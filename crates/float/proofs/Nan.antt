-- A NaN: what it does to an operation and to a comparison, and how it is told. Assumes nothing.
use mathlib.Core.Path.{◌≡◌, refl, sym, ◌∙◌}
use mathlib.Core.Bool.{Bool, true, false, not}
use Prim.Native.Nat.{ℕ, ◌*◌, ◌<◌, ◌%◌}
use lib.IntN.{ℤ}
use lib.Ieee.{Float, nan, inf, fin, binary64, up, down, level, add, sub, mul, div, lt, eq, ne, is_nan, of_bits}
use lib.Ieee.Bits.{nan_bits_is, nan_bits_above}
use borrow.Author.Tests.{lt-ltb, eq-eqb}

-- what holds of a NaN, of the infinities and of every number holds of each float
pub each : (P : Float → Type 0) → P nan → ((s : Bool) → P (inf s)) → ((s : Bool) (m : ℕ) (e : ℤ) → P (fin s m e)) → (x : Float) → P x
each P a b c nan = a
each P a b c (inf s) = b s
each P a b c (fin s m e) = c s m e

-- ---- the result of an operation is a NaN where an operand is

pub record Spoilt (op : Float → Float → Float) : Type 0 where
  pub first : (y : Float) → op nan y ≡ nan
  pub second : (x : Float) → op x nan ≡ nan

pub add_nan : Spoilt (add binary64)
unfolding add
add_nan = record { first = λ y. refl; second = each (λ x. add binary64 x nan ≡ nan) refl (λ s. refl) (λ s m e. refl) }

pub sub_nan : Spoilt (sub binary64)
unfolding sub
sub_nan = record { first = λ y. refl; second = add_nan.second }

pub mul_nan : Spoilt (mul binary64)
unfolding mul
mul_nan = record { first = λ y. refl; second = each (λ x. mul binary64 x nan ≡ nan) refl (λ s. refl) (λ s m e. refl) }

pub div_nan : Spoilt (div binary64)
unfolding div
div_nan = record { first = λ y. refl; second = each (λ x. div binary64 x nan ≡ nan) refl (λ s. refl) (λ s m e. refl) }

-- ---- and a comparison with it is false

pub record Unordered (test : Float → Float → Bool) : Type 0 where
  pub first : (y : Float) → test nan y ≡ false
  pub second : (x : Float) → test x nan ≡ false

pub lt_nan : Unordered lt
unfolding lt
lt_nan = record { first = λ y. refl; second = each (λ x. lt x nan ≡ false) refl (λ s. refl) (λ s m e. refl) }

-- ---- how it is told

abbrev pub real : Float → Bool
real x = not (is_nan x)

pub is_nan_lem : (x : Float) → is_nan x ≡ true → x ≡ nan
unfolding is_nan
is_nan_lem nan e = refl
is_nan_lem (inf s) e = cc
is_nan_lem (fin s m k) e = cc

level_itself : (s : Bool) (n : ℕ) → level s n s n ≡ true
level_itself true n = rw (eq-eqb n n refl)
level_itself false n = rw (eq-eqb n n refl)

-- a NaN, and nothing else, differs from itself
pub differs_is_nan : (x : Float) → ne x x ≡ is_nan x
unfolding ne eq is_nan
differs_is_nan nan = refl
differs_is_nan (inf true) = refl
differs_is_nan (inf false) = refl
differs_is_nan (fin s m e) = rw (level_itself s (m * up e * down e)) refl

-- a bit pattern above the infinity's, its sign's bit taken off, is a NaN's
pub nan_bits_lem : (n : ℕ) → 0x7ff0_0000_0000_0000 < n % 0x8000_0000_0000_0000 → of_bits binary64 n ≡ nan
nan_bits_lem n h = is_nan_lem (of_bits binary64 n) (sym (nan_bits_is binary64 n) ∙ nan_bits_above binary64 n ∙ lt-ltb 0x7ff0_0000_0000_0000 (n % 0x8000_0000_0000_0000) h)

-- 0/0, where a pattern is a NaN's
pub nan_made : (n : ℕ) → 0x7ff0_0000_0000_0000 < n % 0x8000_0000_0000_0000 → div binary64 (of_bits binary64 0) (of_bits binary64 0) ≡ of_bits binary64 n
unfolding div of_bits
nan_made n h = sym (nan_bits_lem n h)
