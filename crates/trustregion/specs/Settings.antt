-- The settings of `TrustRegion`: their defaults, their range and the kernel that they choose. Definitions only.
use Rattle.std.specs.Prelude.{Bool, List, [], ◌∷◌, ℕ, Float}
use Rattle.std.specs.Float.Ieee.{lt, le}
use Rattle.float.specs.Numbers.{finite}
use Rattle.float.specs.Constants.{nought, one, hundred, quarter, eighth}
use Rattle.vectors.specs.Refusal.{all_hold}
use Rattle.kernels.specs.Kernel.{Kernel, positive}
use Rattle.kernels.specs.Choice as Choice
use Rattle.kernels.specs.declared.choice.Choice as kernels
use Rattle.offer.specs.State.{allowable}
use Rattle.trustregion.specs.declared.settings.Settings.{Settings}

-- of what is told; the allowance has its default
abbrev pub settings_of : kernels.Choice → (radius max_radius eta : Float) → Settings
settings_of choice radius max_radius eta = record { choice = choice; radius = radius; max_radius = max_radius; eta = eta; allowance = 1000 }

-- with another allowance
abbrev pub allowing : ℕ → Settings → Settings
allowing allowance t = record { choice = t.choice; radius = t.radius; max_radius = t.max_radius; eta = t.eta; allowance = allowance }

-- "The defaults belong to the settings themselves as fixed numbers: radius 1, max_radius 100, eta 0.125; .. epsilon 1e-9 .. The iteration limit has no default here."
abbrev pub by_default : (kernel limit : ℕ) → Settings
by_default kernel limit = settings_of (Choice.by_default kernel limit) one hundred eighth

-- "Settings must be finite. Kernel 1 to 3 (Cauchy, Dogleg, Steihaug); radius and max_radius > 0; eta of `TrustRegion` in [0, 0.25); .. epsilon > 0; Steihaug's iteration limit 0 to 10,000."
-- And "the most allowed, 1 to 1,000".
abbrev pub ranges : Settings → List Bool
ranges t =
    Choice.in_range t.choice
    ∷ positive t.radius
    ∷ positive t.max_radius
    ∷ finite t.eta
    ∷ le nought t.eta
    ∷ lt t.eta quarter
    ∷ allowable t.allowance
    ∷ []

unfoldable pub in_range : Settings → Bool
unfolding Choice.in_range positive finite
in_range t = all_hold (ranges t)

-- the kernel of the settings
abbrev pub chosen : Settings → Kernel
chosen t = Choice.kernel t.choice
