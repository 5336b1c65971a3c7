-- A session of any kind, on values: what is the same whatever its settings are. S is their type. Definitions only.
use Rattle.std.specs.Prelude.{◌≡◌, Bool, true, List, [], ◌∷◌, ℕ, leb, Float}
use Rattle.vectors.specs.Vector.{dot, norm, weighted}
use Rattle.vectors.specs.Refusal.{Answer, given, unless, then, all_hold}
use Rattle.kernels.specs.Kernel.{Kernel}
use Rattle.kernels.specs.Choice as Choice
use Rattle.kernels.specs.declared.choice.Choice as kernels
use Rattle.offer.specs.State.{begin, in_phase, allowable, steady}
use Rattle.offer.specs.Offer.{start_checks, proposal_checks, Offer, stepping}
use Rattle.offer.specs.declared.Asked.{Asked}
use Rattle.offer.specs.declared.session.Session.{Session}
use Rattle.offer.specs.declared.state.State.{State}
use Rattle.offer.specs.declared.state.Phase.TheVariants.{AwaitingCost}

-- ---- a kind of session

-- what it asks of its settings
pub record Kind (S : Type 0) : Type 0 where
  pub in_range : S → Bool
  pub choice : S → kernels.Choice
  pub allowance : S → ℕ
  -- the radius that a session begins with
  pub first_radius : S → Float
  -- what a step is promised on beside its norm, by the cost at the point, p·g and p·H·p
  pub promise : (cost slope curvature : Float) → Float

-- settings in range name a kernel, and an allowance of "1 to 1,000"
pub record Lawful {S : Type 0} (kind : Kind S) : Type 0 where
  pub known : (t : S) → kind.in_range t ≡ true → Choice.known (kind.choice t) ≡ true
  pub allowable : (t : S) → kind.in_range t ≡ true → allowable (kind.allowance t) ≡ true

-- ---- a session of it

-- the session in another state
abbrev pub turned : {S : Type 0} → Session S → State → Session S
turned s state = record { settings = s.settings; state = state }

pub record Proposal (S : Type 0) : Type 0 where
  pub session : Session S
  pub offer : Offer

module _ {S : Type 0} (kind : Kind S) where
  -- the kernel of the settings
  abbrev pub chosen : S → Kernel
  chosen t = Choice.kernel (kind.choice t)

  -- not "a setting out of range or not finite, or a session with negative or not finite radius, or cost not finite"; "a session checks all settings of its kind, whatever its kernel";
  -- nor "a count above" the allowance
  abbrev pub sound : Session S → Bool
  sound s = all_hold (kind.in_range s.settings ∷ steady s.state ∷ leb s.state.count (kind.allowance s.settings) ∷ [])

  -- "takes settings and cost only"
  abbrev pub start : S → Float → Answer (Session S)
  start settings f = unless (start_checks (kind.in_range settings) f) (given (record { settings = settings; state = begin (kind.first_radius settings) f }))

  -- what a session lends of itself to be asked for a step
  abbrev pub asking : Session S → Asked
  asking s = record { choice = kind.choice s.settings; allowance = kind.allowance s.settings; sound = sound s; state = s.state }

  -- it keeps ‖p‖ and what else the step is promised on
  abbrev pub awaiting : Session S → ℕ → (gradient hessian : List Float) → Offer → Proposal S
  awaiting s n gradient hessian o = record {
    session = turned s (in_phase (AwaitingCost (kind.promise s.state.cost (dot o.step gradient) (weighted n o.step hessian o.step)) (norm o.step)) s.state);
    offer = o;
  }

  -- refusals 1 to 4, and then those of `stepping`, 5, 9 and 6 to 8
  abbrev pub proposal : (S → Kernel) → Session S → ℕ → (point gradient hessian step trial scratch : List Float) → Answer (Proposal S)
  proposal kernel s n point gradient hessian step trial scratch =
      unless (proposal_checks (sound s) s.state n point gradient hessian step trial scratch)
      (then (λ (o : Offer). given (awaiting s n gradient hessian o)) (stepping (kernel s.settings) (kind.allowance s.settings) s.state n point gradient hessian))
