-- "A program reads 8-byte little-endian words (kernel 1 to 3, n, radius, epsilon, limit, g, H)." Definitions only.
use Rattle.std.specs.Prelude.{◌≡◌, Bool, cond, ◌&&◌, List, [], ◌∷◌, ◌++◌, Result, Ok, Err, ℕ, ◌+◌, ◌*◌, eqb, leb, length, take, drop, Float}
use Rattle.std.proofs.Math.Bool.{not}
use Rattle.std.specs.Float.{binary64}
use Rattle.std.specs.Float.Ieee.{of_bits}
use Rattle.words.specs.Words.{word_at}
use Rattle.vectors.specs.Vector.{tab, all_finite}
use Rattle.vectors.specs.Refusal.{Answer, refused, given, Check, ◌if◌, unless, size, room, left_in, scratch_after}
use Rattle.kernels.specs.Kernel.{Made, positive}
use Rattle.kernels.specs.Choice as Chosen
use Rattle.kernels.specs.Choice.{asked, kernel}
use Rattle.vectors.specs.declared.refusal.Refusal.{Refusal}
use Rattle.vectors.specs.declared.refusal.Refusal.TheVariants.{Size, Setting, Entry}
use Rattle.kernels.specs.declared.choice.Choice.{Choice}
use Rattle.case.specs.declared.Step.{Step}

-- ---- the words of an input

-- word i, as it stands and as a number
abbrev pub word : List ℕ → ℕ → ℕ
word bytes i = word_at bytes (8 * i)

abbrev pub number : List ℕ → ℕ → Float
number bytes i = of_bits binary64 (word bytes i)

-- k numbers, from word i on
unfoldable pub numbers : List ℕ → (i k : ℕ) → List Float
unfolding tab
numbers bytes i k = tab k (λ j. number bytes (i + j))

-- "kernel 1 to 3, n, radius, epsilon, limit, g, H", in this order
abbrev pub choice_of : List ℕ → Choice
choice_of bytes = Chosen.choice_of (word bytes 0) (number bytes 3) (word bytes 4)

abbrev pub size_of : List ℕ → ℕ
size_of bytes = word bytes 1

abbrev pub radius_of : List ℕ → Float
radius_of bytes = number bytes 2

abbrev pub gradient_of : List ℕ → List Float
gradient_of bytes = numbers bytes 5 (size_of bytes)

abbrev pub hessian_of : List ℕ → List Float
hessian_of bytes = numbers bytes (5 + size_of bytes) (size_of bytes * size_of bytes)

-- ---- the answer

-- so many bytes are the words of a case of size n; "input too short or too long for its n" is not
abbrev pub fits : (bytes n : ℕ) → Bool
fits bytes n = size n && eqb bytes (8 * (5 + n + n * n))

-- what is asked of the numbers, once there are as many as there should be: "another kernel number is `refused 2`"
abbrev pub run_checks : Choice → (radius : Float) → (g H : List Float) → List Check
run_checks c radius g H =
    (Setting if not (positive radius && asked c))
    ∷ (Entry if not (all_finite g && all_finite H))
    ∷ []

unfoldable pub run : Choice → ℕ → (radius : Float) → (g H : List Float) → Answer Made
unfolding positive asked all_finite kernel
run c n radius g H = unless (run_checks c radius g H) (kernel c n radius g H)

-- an input's step, or its refusal
unfoldable pub case_answer : List ℕ → Answer Made
unfolding size numbers run
case_answer bytes =
    unless ((Size if not (fits (length bytes) (size_of bytes))) ∷ [])
    (run (choice_of bytes) (size_of bytes) (radius_of bytes) (gradient_of bytes) (hessian_of bytes))

-- ---- what the function says and leaves

-- the room that it is lent: what the largest case takes
abbrev pub enough : (g H step scratch : ℕ) → Bool
enough g H step scratch = leb 64 g && leb 4096 H && leb 64 step && leb 8704 scratch

module _ (bytes : List ℕ) (g H step scratch : List Float) where
  -- with less room every case is refused
  unfoldable pub answer_in : Answer Made
  unfolding case_answer
  answer_in = unless ((Size if not (enough (length g) (length H) (length step) (length scratch))) ∷ []) (case_answer bytes)

  -- whether the numbers of the case were read
  abbrev pub was_read : Bool
  was_read = enough (length g) (length H) (length step) (length scratch) && fits (length bytes) (size_of bytes)

-- "The words on line one are size and passes"
abbrev pub said : Answer Made → Result Step Refusal
said (refused r) = Err r
said (given m) = Ok (record { size = length m.step; passes = m.passes })

-- v at the front of a longer list
abbrev pub in_front : (v old : List Float) → List Float
in_front v old = v ++ drop (length v) old

-- The step stands at the front of its room. The rest is what a case leaves in room that is the function's to use: g and H at the front of theirs, once they
-- are read, and the front of the scratch as a kernel leaves it.
pub record Answered (bytes : List ℕ) (r : Result Step Refusal) (g g' H H' step step' scratch scratch' : List Float) : Type 0 where
  pub says : r ≡ said (answer_in bytes g H step scratch)
  pub leaves : step' ≡ left_in (λ m. in_front m.step step) (answer_in bytes g H step scratch) step
  pub gradient : g' ≡ cond (was_read bytes g H step scratch) (in_front (gradient_of bytes) g) g
  pub hessian : H' ≡ cond (was_read bytes g H step scratch) (in_front (hessian_of bytes) H) H
  pub clears : scratch' ≡ scratch_after (answer_in bytes g H step scratch) (take (room (size_of bytes)) scratch) ++ drop (room (size_of bytes)) scratch
