-- Which word is which setting, and which number which phase. Definitions only.
use Rattle.std.specs.Prelude.{cond, List, [], ◌∷◌, ℕ, eqb, Float}
use Rattle.float.specs.Constants.{nought}
use Rattle.vectors.specs.Vector.{at}
use Rattle.kernels.specs.Choice.{choice_of, choosing}
use Rattle.kernels.specs.declared.choice.Choice.{Choice}
use Rattle.trustregion.specs.Settings as trust_region
use Rattle.trustregion.specs.declared.settings.Settings as trustregion
use Rattle.sr1.specs.Settings as sr1
use Rattle.sr1.specs.declared.settings.Settings as sr1_session
use Rattle.offer.specs.declared.state.Phase.{Phase}
use Rattle.offer.specs.declared.state.Phase.TheVariants.{Ready, AwaitingCost, AwaitingDerivatives}
use Rattle.codec.specs.declared.Wholes.{Wholes}
use Rattle.codec.specs.declared.Turn.{Turn}

-- ---- from words

-- "1,000, the ported dogleg and edition 1" for what is not told
abbrev pub by_default : (kernel limit : ℕ) → Wholes
by_default kernel limit = record { kernel = kernel; limit = limit; allowance = 1000; dogleg = 1; edition = 1 }

abbrev pub choice : Wholes → (epsilon : Float) → Choice
choice w epsilon = choosing w.dogleg (choice_of w.kernel epsilon w.limit)

-- the numbers are radius, max_radius and eta
abbrev pub trust_region_of : Wholes → (epsilon : Float) → (numbers : List Float) → trustregion.Settings
trust_region_of w epsilon v = trust_region.allowing w.allowance (trust_region.settings_of (choice w epsilon) (at v 0) (at v 1) (at v 2))

-- the numbers are radius, eta, factor and tol_grad
abbrev pub sr1_of : Wholes → (epsilon : Float) → (numbers : List Float) → sr1_session.Settings
sr1_of w epsilon v = sr1.updating w.edition (sr1.allowing w.allowance (sr1.settings_of (choice w epsilon) (at v 0) (at v 1) (at v 2) (at v 3)))

-- ---- into words: each setting at its place

abbrev pub wholes : Choice → (allowance edition : ℕ) → Wholes
wholes c allowance edition = record { kernel = c.kernel; limit = c.limit; allowance = allowance; dogleg = c.dogleg; edition = edition }

-- TrustRegion has no edition: whatever one stands there
abbrev pub trust_region_wholes : (edition : ℕ) → trustregion.Settings → Wholes
trust_region_wholes edition t = wholes t.choice t.allowance edition

abbrev pub trust_region_numbers : trustregion.Settings → List Float
trust_region_numbers t = t.radius ∷ t.max_radius ∷ t.eta ∷ []

abbrev pub sr1_wholes : sr1_session.Settings → Wholes
sr1_wholes t = wholes t.choice t.allowance t.edition

abbrev pub sr1_numbers : sr1_session.Settings → List Float
sr1_numbers t = t.radius ∷ t.eta ∷ t.factor ∷ t.tol_grad ∷ []

-- ---- phases: 0 ready, 1 awaiting a cost, with what it was promised on, 2 awaiting derivatives

abbrev pub phase_of : Turn → Phase
phase_of turn = cond (eqb turn.number 0) Ready (cond (eqb turn.number 1) (AwaitingCost turn.promise turn.norm) AwaitingDerivatives)

abbrev pub turn_of : Phase → Turn
turn_of Ready = record { number = 0; promise = nought; norm = nought }
turn_of (AwaitingCost promise norm) = record { number = 1; promise = promise; norm = norm }
turn_of AwaitingDerivatives = record { number = 2; promise = nought; norm = nought }
