-- A kernel's choice: which kernel, and what it is told beside the radius and its lists. Definitions only.
use Rattle.std.specs.Prelude.{◌≡◌, Result, Ok, Err, true, false, Bool, cond, not, ◌&&◌, List, [], ◌∷◌, ℕ, ◌*◌, eqb, leb, Float}
use Rattle.float.specs.Constants.{billionth}
use Rattle.vectors.specs.Refusal.{Answer, Check, ◌if◌, unless, all_hold, size, sized, room}
use Rattle.kernels.specs.Kernel.{Kernel, Made, positive, bounds, bounded}
use Rattle.kernels.specs.CauchyPoint.{cauchy_point}
use Rattle.kernels.specs.Dogleg.{dogleg}
use Rattle.kernels.specs.Textbook.{textbook_dogleg}
use Rattle.kernels.specs.Steihaug.{steihaug}
use Rattle.kernels.specs.declared.choice.Choice.{Choice}
use Rattle.kernels.specs.declared.choice.Kernel.{Kernel as Named}
use Rattle.kernels.specs.declared.choice.Kernel.TheVariants as named
use Rattle.vectors.specs.declared.refusal.Refusal.{Refusal}
use Rattle.vectors.specs.declared.refusal.Refusal.TheVariants.{Size, Setting}

-- of what is told; of the two doglegs it is the ported one
abbrev pub choice_of : (kernel : ℕ) → (epsilon : Float) → (limit : ℕ) → Choice
choice_of kernel epsilon limit = record { kernel = kernel; epsilon = epsilon; limit = limit; dogleg = 1 }

-- with this dogleg: "1 ported, 2 new"
abbrev pub choosing : (dogleg : ℕ) → Choice → Choice
choosing dogleg c = record { kernel = c.kernel; epsilon = c.epsilon; limit = c.limit; dogleg = dogleg }

-- "epsilon 1e-9 .. The iteration limit has no default here."
abbrev pub by_default : (kernel limit : ℕ) → Choice
by_default kernel limit = choice_of kernel billionth limit

unfoldable pub among : (number last : ℕ) → Bool
among number last = leb 1 number && leb number last

-- "Kernel 1 to 3 (Cauchy, Dogleg, Steihaug)"; "chosen by a setting (1 ported, 2 new, else refusal 2)", whatever the kernel
unfoldable pub known : Choice → Bool
unfolding among
known c = among c.kernel 3 && among c.dogleg 2

-- "Kernel 1 to 3 ..; epsilon > 0; Steihaug's iteration limit 0 to 10,000", whatever the kernel
abbrev pub ranges : Choice → List Bool
ranges c = known c ∷ bounds c.epsilon c.limit

unfoldable pub in_range : Choice → Bool
unfolding known positive
in_range c = all_hold (ranges c)

-- what a kernel that is called directly asks: "epsilon and limit are checked for kernel 3 only"
unfoldable pub asked : Choice → Bool
unfolding known in_range
asked c = cond (eqb c.kernel 3) (in_range c) (known c)

-- the kernel that is chosen; a kernel that is neither 1 nor 2 counts as 3 and a dogleg that is not 1 as 2, and no range lets another through
unfoldable pub kernel : Choice → Kernel
unfolding cauchy_point dogleg textbook_dogleg steihaug
kernel c = cond (eqb c.kernel 1) cauchy_point (cond (eqb c.kernel 2) (cond (eqb c.dogleg 1) dogleg textbook_dogleg) (steihaug c.epsilon c.limit))

-- ---- the same by the code's names

abbrev pub kernel_of : Named → Kernel
kernel_of named.CauchyPoint = cauchy_point
kernel_of named.Dogleg = dogleg
kernel_of named.Textbook = textbook_dogleg
kernel_of (named.Steihaug epsilon limit) = steihaug epsilon limit

abbrev pub bounds_of : Named → Bool
bounds_of (named.Steihaug epsilon limit) = bounded epsilon limit
bounds_of _ = true

-- what the code finds of a choice: the kernel that it names, or refusal 2
abbrev pub Names : Choice → Result Named Refusal → Type 0
Names c (Ok k) = (known c ≡ true) × (kernel_of k ≡ kernel c) × (bounds_of k ≡ asked c)
Names c (Err r) = (known c ≡ false) × (r ≡ Setting)

-- ---- the sessions' door: a session has made its own checks, and here stand those without which no kernel can run

abbrev pub door_checks : Choice → ℕ → (g H scratch : List Float) → List Check
door_checks c n g H scratch =
    (Size if not (all_hold (size n ∷ sized (n * n) H ∷ sized n g ∷ sized (room n) scratch ∷ [])))
    ∷ (Setting if not (known c))
    ∷ []

unfoldable pub door : Choice → ℕ → (radius : Float) → (g H scratch : List Float) → Answer Made
unfolding size known kernel
door c n radius g H scratch = unless (door_checks c n g H scratch) (kernel c n radius g H)
