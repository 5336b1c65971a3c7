-- What the elementwise loops make of one vector and of two. Definitions only.
use Rattle.std.specs.Prelude.{List, ℕ, Float}
use Rattle.vectors.specs.Vector.{at, tab}

-- f of each number
unfoldable pub map : ℕ → (Float → Float) → List Float → List Float
unfolding tab
map n f x = tab n (λ i. f (at x i))

-- f of the numbers at each index
unfoldable pub zip : ℕ → (Float → Float → Float) → List Float → List Float → List Float
unfolding tab
zip n f x y = tab n (λ i. f (at x i) (at y i))
