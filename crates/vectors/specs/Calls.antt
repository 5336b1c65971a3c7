-- The calls on vectors, whole: each answer for every input, refused ones too. Definitions only.
use Rattle.std.specs.Prelude.{cond, not, List, [], ◌∷◌, Result, Ok, Err, ℕ, ◌*◌, ltb, Float}
use Rattle.float.specs.Constants.{nought}
use Rattle.vectors.specs.Vector.{dot, norm, row, times, weighted}
use Rattle.vectors.specs.Refusal.{Answer, refused, given, Check, ◌if◌, unless, all_hold, size, sized}
use Rattle.vectors.specs.declared.refusal.Refusal.{Refusal}
use Rattle.vectors.specs.declared.refusal.Refusal.TheVariants.{Size}

-- the answer that a result of the code stands for
abbrev pub tells : Result Float Refusal → Answer Float
tells (Ok x) = given x
tells (Err r) = refused r

-- and its number: +0 where there is none
abbrev pub value_of : Result Float Refusal → Float
value_of (Ok x) = x
value_of (Err r) = nought

-- dot(n, a, b) refuses by 1, or gives the dot
abbrev pub dot_checks : ℕ → (a b : List Float) → List Check
dot_checks n a b = (Size if not (all_hold (size n ∷ sized n a ∷ sized n b ∷ []))) ∷ []

abbrev pub dot_answer : ℕ → (a b : List Float) → Answer Float
dot_answer n a b = unless (dot_checks n a b) (given (dot a b))

-- norm(n, a)
abbrev pub norm_checks : ℕ → (a : List Float) → List Check
norm_checks n a = (Size if not (all_hold (size n ∷ sized n a ∷ []))) ∷ []

abbrev pub norm_answer : ℕ → (a : List Float) → Answer Float
norm_answer n a = unless (norm_checks n a) (given (norm a))

-- weighted_dot(n, a, H, b)
abbrev pub weighted_checks : ℕ → (a H b : List Float) → List Check
weighted_checks n a H b = (Size if not (all_hold (size n ∷ sized (n * n) H ∷ sized n a ∷ sized n b ∷ []))) ∷ []

abbrev pub weighted_answer : ℕ → (a H b : List Float) → Answer Float
weighted_answer n a H b = unless (weighted_checks n a H b) (given (weighted n a H b))

-- product(n, H, d, out): what out takes
abbrev pub product_checks : ℕ → (H d out : List Float) → List Check
product_checks n H d out = (Size if not (all_hold (size n ∷ sized (n * n) H ∷ sized n d ∷ sized n out ∷ []))) ∷ []

abbrev pub product_answer : ℕ → (H d out : List Float) → Answer (List Float)
product_answer n H d out = unless (product_checks n H d out) (given (times n H d))

-- row(n, H, i): "a wrong length or a row number not below n gives the empty part, without a number"
abbrev pub row_part : ℕ → (H : List Float) → ℕ → List Float
row_part n H i = cond (all_hold (size n ∷ sized (n * n) H ∷ ltb i n ∷ [])) (row n H i) []
