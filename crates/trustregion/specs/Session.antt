-- The `TrustRegion` session of document 01, on values: what each of its calls answers, for every input, refused ones too. Definitions only.
-- A call is a function of the session, of n, and of the lent vectors as they are at entry. Its answer is a refusal, or all that the call changes.
use Rattle.std.specs.Prelude.{Bool, not, ◌&&◌, cond, List, [], ◌∷◌, ℕ, ◌*◌, Float}
use Rattle.std.specs.Float.Ieee.{lt, le}
use Rattle.float.specs.Numbers.{◌⊕◌, ◌⊖◌, ◌⊗◌, finite, magnitude, smaller}
use Rattle.float.specs.Constants.{two, half, quarter, three_quarters, ten_epsilons}
use Rattle.vectors.specs.Vector.{dot, norm, weighted, all_finite}
use Rattle.vectors.specs.Refusal.{Answer, given, Check, ◌if◌, unless, then, all_hold, size, sized}
use Rattle.kernels.specs.Kernel.{Kernel}
use Rattle.kernels.specs.Ratio.{reduction_ratio}
use Rattle.vectors.specs.declared.refusal.Refusal.TheVariants.{Size, Setting, Turn, Entry, Range}
use Rattle.trustregion.specs.Settings.{in_range}
use Rattle.offer.specs.Offer.{cost_taken, Offer, offer}
use Rattle.offer.specs.State.{moved, counted, awaits_derivatives, Promise, promised}
use Rattle.offer.specs.Session as any
use Rattle.offer.specs.declared.session.Session as sessions
use Rattle.trustregion.specs.declared.settings.Settings.{Settings}
use Rattle.offer.specs.declared.state.State.{State}
use Rattle.offer.specs.declared.state.Phase.TheVariants.{Ready, AwaitingDerivatives}

abbrev pub Session : Type 0
Session = sessions.Session Settings

-- ---- what it has of every kind of session, by `offer`'s specs/Session.antt

-- "m = (f + p·g) + 0.5·(p·H·p)"
abbrev pub model_value : (f slope curvature : Float) → Float
model_value f slope curvature = f ⊕ slope ⊕ half ⊗ curvature

abbrev pub kind : any.Kind Settings
kind = record { in_range = in_range; choice = λ t. t.choice; allowance = λ t. t.allowance; first_radius = λ t. t.radius; promise = model_value }

-- what refusal 2 asks of it
unfoldable pub sound : Session → Bool
unfolding in_range finite
sound = any.sound kind

-- the session in another state
abbrev pub turned : Session → State → Session
turned = any.turned

unfoldable pub start : Settings → Float → Answer Session
unfolding in_range finite
start = any.start kind

abbrev pub Proposal : Type 0
Proposal = any.Proposal Settings

-- "keeps ‖p‖ and m"
unfoldable pub awaiting : Session → ℕ → (gradient hessian : List Float) → Offer → Proposal
unfolding dot weighted norm
awaiting = any.awaiting kind

-- refusals 1 to 4, and then those of `stepping`, 5, 9 and 6 to 8
unfoldable pub proposal : (Settings → Kernel) → Session → ℕ → (point gradient hessian step trial scratch : List Float) → Answer Proposal
unfolding size sound all_finite offer awaiting
proposal = any.proposal kind

-- ---- the answer with a cost F

pub record Judgement : Type 0 where
  pub session : Session
  pub point : List Float
  pub ratio : Float
  pub accepted : Bool

-- "rho = (f − F)/(f − m)"
abbrev pub rho : (f F m : Float) → Float
rho f F m = reduction_ratio f F f m

-- "rho < 0.25 gives 0.25·‖p‖; else rho > 0.75 and |‖p‖ − radius| ≤ 10·2^-52 gives the smaller of max_radius and 2·radius; else kept"
unfoldable pub next_radius : (ratio norm radius max_radius : Float) → Float
unfolding magnitude smaller
next_radius ratio norm radius max_radius =
    cond (lt ratio quarter) (quarter ⊗ norm)
    (cond (lt three_quarters ratio && le (magnitude (norm ⊖ radius)) ten_epsilons) (smaller max_radius (two ⊗ radius))
    radius)

-- "rho > eta accepts: the point takes the lent trial's bits, the cost F, and derivatives are awaited"; a rejection "makes the session ready"
unfoldable pub settled : Session → (F ratio radius : Float) → (point trial : List Float) → Judgement
settled s F ratio radius point trial =
    let accepts = lt s.settings.eta ratio in
    record {
      session = turned s (moved s.state radius (cond accepts F s.state.cost) (cond accepts AwaitingDerivatives Ready) (counted F s.state.count));
      point = cond accepts trial point;
      ratio = ratio;
      accepted = accepts;
    }

-- "an input entry not finite; .. trial cost infinite (NaN is taken)": "the trial of `TrustRegion`'s cost answer"
abbrev pub answer_checks : (F : Float) → (trial : List Float) → List Check
answer_checks F trial = (Entry if not (all_finite trial && cost_taken F)) ∷ []

-- "the next radius .. has a number that is not finite"
abbrev pub verdict_checks : (radius : Float) → List Check
verdict_checks radius = (Range if not (finite radius)) ∷ []

-- the verdict by a ratio and the next radius that it gives
abbrev pub verdict : Session → (F ratio radius : Float) → (point trial : List Float) → Answer Judgement
verdict s F ratio radius point trial = unless (verdict_checks radius) (given (settled s F ratio radius point trial))

abbrev pub radius_by : Session → (ratio norm : Float) → Float
radius_by s ratio norm = next_radius ratio norm s.state.radius s.settings.max_radius

unfoldable pub judge : Session → (F : Float) → (point trial : List Float) → Promise → Answer Judgement
unfolding next_radius settled all_finite finite cost_taken
judge s F point trial p =
    unless (answer_checks F trial)
    (verdict s F (rho s.state.cost F p.value) (radius_by s (rho s.state.cost F p.value) p.norm) point trial)

abbrev pub judgement_checks : Session → ℕ → (point trial : List Float) → List Check
judgement_checks s n point trial =
    (Size if not (all_hold (size n ∷ sized n point ∷ sized n trial ∷ [])))
    ∷ (Setting if not (sound s))
    ∷ []

-- refusal 3 is `promised`'s
unfoldable pub judgement : Session → ℕ → Float → (point trial : List Float) → Answer Judgement
unfolding size sound judge
judgement s n F point trial = unless (judgement_checks s n point trial) (then (judge s F point trial) (promised s.state.phase))

-- ---- the answer with new derivatives: "copied into gradient and Hessian and makes the session ready"

pub record Renewal : Type 0 where
  pub session : Session
  pub gradient : List Float
  pub hessian : List Float

abbrev pub renewal_sized : ℕ → (new_gradient new_hessian gradient hessian : List Float) → Bool
renewal_sized n new_gradient new_hessian gradient hessian = all_hold (size n ∷ sized n new_gradient ∷ sized (n * n) new_hessian ∷ sized n gradient ∷ sized (n * n) hessian ∷ [])

abbrev pub renewal_checks : Session → ℕ → (new_gradient new_hessian gradient hessian : List Float) → List Check
renewal_checks s n new_gradient new_hessian gradient hessian =
    (Size if not (renewal_sized n new_gradient new_hessian gradient hessian))
    ∷ (Setting if not (sound s))
    ∷ (Turn if not (awaits_derivatives s.state.phase))
    ∷ (Entry if not (all_finite new_gradient && all_finite new_hessian))
    ∷ []

-- it is an answer other than NaN: the count is 0 again
abbrev pub renewed_by : Session → (new_gradient new_hessian : List Float) → Renewal
renewed_by s new_gradient new_hessian = record { session = turned s (moved s.state s.state.radius s.state.cost Ready 0); gradient = new_gradient; hessian = new_hessian }

unfoldable pub renewal : Session → ℕ → (new_gradient new_hessian gradient hessian : List Float) → Answer Renewal
unfolding size sound all_finite
renewal s n new_gradient new_hessian gradient hessian =
    unless (renewal_checks s n new_gradient new_hessian gradient hessian) (given (renewed_by s new_gradient new_hessian))
