-- The settings of `SR1TrustRegion`: their defaults, their range and the kernel that they choose. Definitions only.
use Rattle.std.specs.Prelude.{Bool, List, [], ◌∷◌, ℕ, leb, Float}
use Rattle.std.specs.Float.Ieee.{lt, le}
use Rattle.float.specs.Numbers.{finite, magnitude}
use Rattle.float.specs.Constants.{nought, one, hundredth, thousandth, half_thousandth, hundred_millionth}
use Rattle.vectors.specs.Refusal.{all_hold}
use Rattle.kernels.specs.Kernel.{Kernel, positive}
use Rattle.kernels.specs.Choice as Choice
use Rattle.kernels.specs.declared.choice.Choice as kernels
use Rattle.offer.specs.State.{allowable}
use Rattle.sr1.specs.declared.settings.Settings.{Settings}

-- of what is told; the allowance and the edition have their defaults
abbrev pub settings_of : kernels.Choice → (radius eta factor tol_grad : Float) → Settings
settings_of choice radius eta factor tol_grad = record { choice = choice; radius = radius; eta = eta; factor = factor; tol_grad = tol_grad; allowance = 1000; edition = 1 }

-- with another allowance
abbrev pub allowing : ℕ → Settings → Settings
allowing allowance t = record { choice = t.choice; radius = t.radius; eta = t.eta; factor = t.factor; tol_grad = t.tol_grad; allowance = allowance; edition = t.edition }

-- with another edition of the rule that says when the Hessian is updated: "Sessions name their edition"
abbrev pub updating : (edition : ℕ) → Settings → Settings
updating edition t = record { choice = t.choice; radius = t.radius; eta = t.eta; factor = t.factor; tol_grad = t.tol_grad; allowance = t.allowance; edition = edition }

-- "The defaults belong to the settings themselves as fixed numbers: .. SR1 radius 1, eta 0.5·1e-3, factor 1e-8, tol_grad 1e-3; epsilon 1e-9 .. The iteration limit has no default here."
abbrev pub by_default : (kernel limit : ℕ) → Settings
by_default kernel limit = settings_of (Choice.by_default kernel limit) one half_thousandth hundred_millionth thousandth

-- "Settings must be finite. Kernel 1 to 3 (Cauchy, Dogleg, Steihaug); radius .. > 0; .. eta of SR1 in (0, 0.01); denominator factor in (0, 1); tol_grad ≥ 0; epsilon > 0; Steihaug's iteration limit 0 to 10,000. SR1's radius is taken by magnitude first."
-- And "the most allowed, 1 to 1,000"; "an unknown edition is 2".
abbrev pub ranges : Settings → List Bool
ranges t =
    Choice.in_range t.choice
    ∷ positive (magnitude t.radius)
    ∷ positive t.eta
    ∷ lt t.eta hundredth
    ∷ positive t.factor
    ∷ lt t.factor one
    ∷ finite t.tol_grad
    ∷ le nought t.tol_grad
    ∷ allowable t.allowance
    ∷ leb 1 t.edition
    ∷ leb t.edition 2
    ∷ []

unfoldable pub in_range : Settings → Bool
unfolding Choice.in_range positive finite magnitude
in_range t = all_hold (ranges t)

-- the kernel of the settings
abbrev pub chosen : Settings → Kernel
chosen t = Choice.kernel t.choice
