-- Laws of the count of hidden trials in a row. Assumes nothing.
use mathlib.Core.Path.{◌≡◌, refl, ◌∙◌}
use mathlib.Core.Bool.{Bool, true, false, cond}
use Prim.Native.Nat.{ℕ, ◌+◌, ◌-◌, ◌^◌, ◌≤◌, min}
use native.Mathlib.Omega.{arith}
use lib.Dec.{eqb, leb}
use lib.Ieee.{Float, is_nan}
use borrow.Author.Tests.{leb-true, eqb-false, le-leb}
use Rattle.vectors.proofs.Sizes.{both}
use Rattle.offer.specs.State.{counted, allowable}

-- a count that refusal 2 lets pass is small: one more of it is no word's end
pub count_small : (allowance count : ℕ) → allowable allowance ≡ true → leb count allowance ≡ true → count ≤ 1000
count_small allowance count a b = omega (arith, leb-true allowance 1000 (both (leb 1 allowance) (leb allowance 1000) a).1, leb-true count allowance b)

-- where it is, one more answer is counted in full
pub counted_small : (F : Float) (count x : ℕ) → count ≤ 1000 → x ≡ min (counted F count) (2 ^ 64 - 1) → x ≡ counted F count
counted_small F count x h e = e ∙ go (is_nan F)
  where
    go : (b : Bool) → min (cond b (count + 1) 0) (2 ^ 64 - 1) ≡ cond b (count + 1) 0
    go true = omega (arith, h)
    go false = refl

-- what calls go by of a count: whether it is above the allowance, and whether it is there
abbrev pub level : (allowance count : ℕ) → Bool × Bool
level allowance count = (leb count allowance, eqb count allowance)

-- one more is where the count was, as long as neither is at the allowance
pub level_up : (allowance count : ℕ) → leb count allowance ≡ true → eqb count allowance ≡ false → eqb (count + 1) allowance ≡ false → level allowance (count + 1) ≡ level allowance count
level_up allowance count low apart above =
    let under : count + 1 ≤ allowance = omega (arith, leb-true count allowance low, eqb-false count allowance apart) in
    rw (le-leb (count + 1) allowance under, low, apart, above)
