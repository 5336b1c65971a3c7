-- Two whole numbers stand in one of three ways, and what three tests then say. Assumes nothing.
use mathlib.Core.Path.{◌≡◌, sym}
use mathlib.Core.Bool.{Bool, true, false}
use Prim.Native.Nat.{ℕ, ◌<◌}
use native.Mathlib.Nat.{le_of_lt}
use native.Mathlib.Decide.{dec_lt}
use mathlib.Core.Logic.{dite}
use native.Mathlib.Omega.{arith}
use lib.Dec.{eqb, ltb}
use borrow.Author.Tests.{lt-ltb, le-ltb, eq-eqb, ne_eqb}

-- by what ltb a b, ltb b a and eqb b a say
pub data Three (a b : ℕ) : Bool → Bool → Bool → Type 0 where
  below : a < b → Three a b true false false
  equal : a ≡ b → Three a b false false true
  above : b < a → Three a b false true false

pub three : (a b : ℕ) → Three a b (ltb a b) (ltb b a) (eqb b a)
three a b =
    dite (dec_lt a b)
    (λ h. rw (lt-ltb a b h, le-ltb b a (le_of_lt h), ne_eqb b a (λ e. omega arith)) (below h))
    (λ n. dite (dec_lt b a)
    (λ h. rw (le-ltb a b (le_of_lt h), lt-ltb b a h, ne_eqb b a (λ e. omega arith)) (above h))
    (λ m. let e : a ≡ b = omega (arith, n, m) in rw (le-ltb a b (omega arith), le-ltb b a (omega arith), eq-eqb b a (sym e)) (equal e)))
