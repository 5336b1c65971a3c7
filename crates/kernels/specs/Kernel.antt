-- What the kernels share: what they give, and the checks before them. Definitions only.
use Rattle.std.specs.Prelude.{◌≡◌, Bool, false, not, ◌&&◌, List, [], ◌∷◌, ◌++◌, ℕ, ◌-◌, ◌*◌, leb, length, Float, Result, Ok, Err}
use Rattle.std.specs.Float.Ieee.{lt}
use Rattle.float.specs.Numbers.{finite}
use Rattle.float.specs.Constants.{nought}
use Rattle.vectors.specs.Vector.{zeros, norm, all_finite}
use Rattle.vectors.specs.Refusal.{Answer, refused, given, Check, ◌if◌, unless, all_hold, untouched_by, size, sized, room, Square, Roomy, left_in, scratch_after}
use Rattle.kernels.specs.declared.kernel.Stepped.{Stepped}
use Rattle.vectors.specs.declared.refusal.Refusal.{Refusal}
use Rattle.vectors.specs.declared.refusal.Refusal.TheVariants.{Size, Setting, Entry, Range}

-- a step, and the passes it took: 0 but for Steihaug
pub record Made : Type 0 where
  pub step : List Float
  pub passes : ℕ

abbrev pub made : ℕ → List Float → Made
made k v = record { step = v; passes = k }

-- every number of the step is finite, and so is its norm
unfoldable pub sound_step : List Float → Bool
unfolding all_finite finite norm
sound_step v = all_finite v && finite (norm v)

-- "8: the step, its norm .. has a number that is not finite"
unfoldable pub handed_out : Made → Answer Made
unfolding sound_step
handed_out m = unless ((Range if not (sound_step m.step)) ∷ []) (given m)

-- a kernel, for n, the radius, g and H
abbrev pub Kernel : Type 0
Kernel = ℕ → Float → List Float → List Float → Answer Made

-- how a kernel's answer may be: a step of n numbers, or a refusal after all checks, which clears the scratch
abbrev pub Proper : ℕ → Answer Made → Type 0
Proper n (refused r) = untouched_by r ≡ false
Proper n (given m) = length m.step ≡ n

-- ---- what a kernel says and leaves

abbrev pub stepped : Answer Made → Result Stepped Refusal
stepped (refused r) = Err r
stepped (given m) = Ok (record { passes = m.passes; norm = norm m.step })

-- For a session a kernel leaves its step at the start of the scratch and +0 behind it.
abbrev pub laid_out : Answer Made → List Float → List Float
laid_out (refused r) old = scratch_after {A = Made} (refused r) old
laid_out (given m) old = m.step ++ zeros (length old - length m.step)

pub record Laid (answer : Answer Made) (r : Result Stepped Refusal) (scratch scratch' : List Float) : Type 0 where
  pub says : r ≡ stepped answer
  pub lays : scratch' ≡ laid_out answer scratch

-- The kernels themselves leave that to who calls them where they refuse: of the scratch nothing is said there.
abbrev pub Where_made : Answer Made → (scratch scratch' : List Float) → Type 0
Where_made (refused r) old new = Unit {0}
Where_made (given m) old new = new ≡ laid_out (given m) old

pub record Reached (answer : Answer Made) (r : Result Stepped Refusal) (scratch scratch' : List Float) : Type 0 where
  pub says : r ≡ stepped answer
  pub lays : Where_made answer scratch scratch'

-- what a direct caller's step becomes: the step that was laid out, or what it was
abbrev pub handed_over : Result Stepped Refusal → (laid step : List Float) → List Float
handed_over (Ok made) laid step = laid
handed_over (Err r) laid step = step

-- for a direct caller it leaves its step where that was to go, and +0 in the scratch
pub record Took (answer : Answer Made) (r : Result Stepped Refusal) (step step' scratch scratch' : List Float) : Type 0 where
  pub says : r ≡ stepped answer
  pub leaves : step' ≡ left_in (λ m. m.step) answer step
  pub clears : scratch' ≡ scratch_after answer scratch

-- ---- before a kernel that is called directly

-- finite, and above zero: "in a kernel called directly, radius zero is refusal 2"
unfoldable pub positive : Float → Bool
unfolding finite
positive x = finite x && lt nought x

-- "epsilon > 0; Steihaug's iteration limit 0 to 10,000"
abbrev pub bounds : Float → ℕ → List Bool
bounds epsilon limit = positive epsilon ∷ leb limit 10000 ∷ []

abbrev pub bounded : Float → ℕ → Bool
bounded epsilon limit = all_hold (bounds epsilon limit)

-- as facts: the lengths of a kernel's matrix, gradient, step and scratch are right
pub record Lent (n h g s scratch : ℕ) : Type 0 where
  pub square : Square n h
  pub gradient : g ≡ n
  pub step : s ≡ n
  pub roomy : Roomy n scratch

-- `settings` is what the kernel asks of its settings beside the radius
abbrev pub kernel_checks : Bool → ℕ → Float → (g H step scratch : List Float) → List Check
kernel_checks settings n radius g H step scratch =
    (Size if not (all_hold (size n ∷ sized (n * n) H ∷ sized n g ∷ sized n step ∷ sized (room n) scratch ∷ [])))
    ∷ (Setting if not (positive radius && settings))
    ∷ (Entry if not (all_finite g && all_finite H))
    ∷ []

-- a kernel called directly: the lists that it was lent go in, as they were
unfoldable pub called : Bool → Kernel → ℕ → Float → (g H step scratch : List Float) → Answer Made
unfolding size positive all_finite
called settings kernel n radius g H step scratch = unless (kernel_checks settings n radius g H step scratch) (kernel n radius g H)
