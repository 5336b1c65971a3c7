-- The arithmetic of document 01 on vectors of n numbers and on n·n matrices by rows. Definitions only.
use Rattle.std.specs.Prelude.{Bool, true, ◌&&◌, List, [], ◌∷◌, ◌++◌, ℕ, zero, suc, length, get_or, Float}
use Rattle.std.specs.Float.{nan}
use Rattle.float.specs.Numbers.{◌⊕◌, ◌⊖◌, ◌⊗◌, ◌⊘◌, finite, magnitude, larger}
use Rattle.float.specs.Constants.{nought}
use Rattle.root.specs.Root.{root}
use Rattle.vectors.specs.Slots.{slot}

-- the number at index i of a vector
abbrev pub at : List Float → ℕ → Float
at v i = get_or v i nan

-- the vector of n numbers whose number at index i is f i
unfoldable pub tab : ℕ → (ℕ → Float) → List Float
tab zero f = []
tab (suc n) f = f zero ∷ tab n (λ i. f (suc i))

-- +0 throughout
unfoldable pub zeros : ℕ → List Float
unfolding tab
zeros n = tab n (λ i. nought)

-- no entry is a NaN or an infinity
unfoldable pub all_finite : List Float → Bool
unfolding finite
all_finite [] = true
all_finite (x ∷ v) = finite x && all_finite v

-- ---- dot, norm, products

-- "A dot starts at +0 and adds products from index 0 upward": here the first k of them.
unfoldable pub dot_to : List Float → List Float → ℕ → Float
dot_to a b zero = nought
dot_to a b (suc k) = dot_to a b k ⊕ at a k ⊗ at b k

unfoldable pub dot : List Float → List Float → Float
unfolding dot_to
dot a b = dot_to a b (length a)

-- "Norm is the root of the dot with itself."
unfoldable pub norm : List Float → Float
unfolding dot
norm a = root (dot a a)

-- row i of a matrix
abbrev pub row : ℕ → List Float → ℕ → List Float
row n H i = slot H n i

-- "H·d is the dot of each row with d": its number i
abbrev pub times_at : ℕ → List Float → List Float → ℕ → Float
times_at n H d i = dot (row n H i) d

unfoldable pub times : ℕ → List Float → List Float → List Float
unfolding tab dot slot
times n H d = tab n (times_at n H d)

-- "weighted dot of a, H, b is a·(H·b)"
unfoldable pub weighted : ℕ → List Float → List Float → List Float → Float
unfolding dot times
weighted n a H b = dot a (times n H b)

-- ---- number by number

-- x + y
unfoldable pub plus : ℕ → List Float → List Float → List Float
unfolding tab
plus n x y = tab n (λ i. at x i ⊕ at y i)

-- x − y
unfoldable pub minus : ℕ → List Float → List Float → List Float
unfolding tab
minus n x y = tab n (λ i. at x i ⊖ at y i)

-- x·a
unfoldable pub scale : ℕ → List Float → Float → List Float
unfolding tab
scale n x a = tab n (λ i. at x i ⊗ a)

-- x / a
unfoldable pub over : ℕ → List Float → Float → List Float
unfolding tab
over n x a = tab n (λ i. at x i ⊘ a)

-- x with a times y taken away
unfoldable pub less : ℕ → List Float → Float → List Float → List Float
unfolding tab
less n x a y = tab n (λ i. at x i ⊖ a ⊗ at y i)

-- the vectors f 0, f 1 .. f (k − 1), end to end
unfoldable pub flat : ℕ → (ℕ → List Float) → List Float
flat zero f = []
flat (suc k) f = flat k f ++ f k

-- ---- the largest magnitude

-- the largest magnitude among the first k numbers; +0 where there are none
unfoldable pub largest_to : List Float → ℕ → Float
unfolding larger magnitude
largest_to v zero = nought
largest_to v (suc k) = larger (magnitude (at v k)) (largest_to v k)

-- "the largest magnitude": a NaN if one is there, otherwise +inf if an infinity is there; +0 of no numbers
unfoldable pub largest : List Float → Float
unfolding largest_to
largest v = largest_to v (length v)
