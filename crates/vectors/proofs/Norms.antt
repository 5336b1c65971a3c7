-- Laws of the norm. Assumes nothing.
use mathlib.Core.Path.{◌≡◌, refl, subst}
use mathlib.Core.Bool.{Bool, true, false, ◌&&◌}
use mathlib.Core.List.{List, [], ◌∷◌}
use Prim.Native.Nat.{ℕ, zero, suc, ◌<◌}
use native.Mathlib.Omega.{arith}
use lib.Dec.{T, ltb}
use lib.ListN.{length}
use lib.Ieee.{Float, of_bits}
use lib.Ieee.Fits.{and_i}
use borrow.Author.Tests.{ltb-true, ltb-false}
use Rattle.float.specs.Numbers.{◌⊗◌, finite}
use Rattle.float.proofs.Order.{sign}
use Rattle.float.proofs.Signs.{add_sign, square_sign}
use Rattle.float.proofs.Operands.{add_finite, square_finite}
use Rattle.root.proofs.Laws.{root_finite}
use Rattle.vectors.specs.Vector.{at, all_finite, dot_to, dot, norm}

-- where a sum of squares is finite, each number is
dot_finite : (v : List Float) (k : ℕ) → T (finite (dot_to v v k)) → (i : ℕ) → i < k → T (finite (at v i))
unfolding dot_to
dot_finite v zero w i h = absurd (omega (arith, h))
dot_finite v (suc k) w i h = let parts = add_finite (dot_to v v k) (at v k ⊗ at v k) w in go (dot_finite v k parts.0 i) (square_finite (at v k) parts.1) (ltb i k) refl
  where
    go : (i < k → T (finite (at v i))) → T (finite (at v k)) → (b : Bool) → ltb i k ≡ b → T (finite (at v i))
    go before last true e = before (ltb-true i k e)
    go before last false e = let same : k ≡ i = omega (arith, h, ltb-false i k e) in subst (λ (j : ℕ). T (finite (at v j))) same last

each_finite : (v : List Float) → ((i : ℕ) → i < length v → T (finite (at v i))) → T (all_finite v)
unfolding all_finite
each_finite [] f = tt
each_finite (x ∷ v) f = and_i (finite x) (all_finite v) (f 0 (omega arith)) (each_finite v (λ i h. f (suc i) (omega (arith, h))))

-- a norm that is finite is of finite numbers
pub norm_finite : (v : List Float) → T (finite (norm v)) → T (all_finite v)
unfolding norm dot
norm_finite v w = each_finite v (dot_finite v (length v) (root_finite (dot_to v v (length v)) w))

-- so that the norm alone tells whether both are
pub norm_tells : (v : List Float) → finite (norm v) ≡ (all_finite v && finite (norm v))
norm_tells v = go (finite (norm v)) (all_finite v) (norm_finite v)
  where
    go : (b c : Bool) → (T b → T c) → b ≡ (c && b)
    go true true f = refl
    go true false f = absurd (f tt)
    go false true f = refl
    go false false f = refl

-- ---- signs

squares_sign : (v : List Float) (k : ℕ) → sign (dot_to v v k) ≡ false
unfolding dot_to of_bits
squares_sign v zero = refl
squares_sign v (suc k) = add_sign (dot_to v v k) (at v k ⊗ at v k) (squares_sign v k) (square_sign (at v k))

-- the dot of a vector with itself has no minus, not even that of −0
pub dot_sign : (v : List Float) → sign (dot v v) ≡ false
unfolding dot
dot_sign v = squares_sign v (length v)
