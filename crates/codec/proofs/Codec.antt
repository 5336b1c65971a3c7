-- Settings and phases that were told in words are read back as they were. Assumes nothing.
use mathlib.Core.Path.{◌≡◌, refl}
use Prim.Native.Nat.{ℕ}
use Rattle.offer.specs.declared.state.Phase.{Phase}
use Rattle.offer.specs.declared.state.Phase.TheVariants.{Ready, AwaitingCost, AwaitingDerivatives}
use Rattle.trustregion.specs.declared.settings.Settings as trustregion
use Rattle.sr1.specs.declared.settings.Settings as sr1
use Rattle.codec.specs.Codec.{trust_region_of, sr1_of, trust_region_wholes, trust_region_numbers, sr1_wholes, sr1_numbers, phase_of, turn_of}

-- whatever stands for the edition, which `TrustRegion` passes over
pub trust_region_back : (edition : ℕ) (t : trustregion.Settings) → trust_region_of (trust_region_wholes edition t) t.choice.epsilon (trust_region_numbers t) ≡ t
trust_region_back edition t = refl

pub sr1_back : (t : sr1.Settings) → sr1_of (sr1_wholes t) t.choice.epsilon (sr1_numbers t) ≡ t
sr1_back t = refl

pub phase_back : (p : Phase) → phase_of (turn_of p) ≡ p
phase_back Ready = refl
phase_back (AwaitingCost promise norm) = refl
phase_back AwaitingDerivatives = refl
