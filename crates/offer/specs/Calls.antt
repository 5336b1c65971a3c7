-- What the calls of this crate give and leave, for every input, refused ones too. Definitions only.
use Rattle.std.specs.Prelude.{◌≡◌, Bool, cond, not, List, [], ◌∷◌, Result, Ok, Err, ℕ, eqb, length, Float}
use Rattle.vectors.specs.Vector.{dot, weighted, norm, all_finite}
use Rattle.vectors.specs.Refusal.{Answer, refused, given, Check, ◌if◌, unless, then, size, left_in, scratch_after}
use Rattle.kernels.specs.Choice.{door}
use Rattle.vectors.specs.declared.refusal.Refusal.{Refusal}
use Rattle.vectors.specs.declared.refusal.Refusal.TheVariants.{Size, Setting, Turn, Entry}
use Rattle.offer.specs.State.{in_phase, Outcome}
use Rattle.offer.specs.Offer.{proposal_checks, Offer, offer, step_checks}
use Rattle.offer.specs.declared.Asked.{Asked}
use Rattle.offer.specs.Session.{Kind, turned, Proposal}
use Rattle.offer.specs.declared.Offered.{Offered}
use Rattle.offer.specs.declared.session.Session.{Session}
use Rattle.offer.specs.declared.session.After.{After}
use Rattle.offer.specs.declared.state.Said.{Said}
use Rattle.offer.specs.declared.state.Said.TheVariants.{Proposed}
use Rattle.offer.specs.declared.state.Phase.TheVariants.{AwaitingCost}

-- refusals 1 to 4, by what each of them asks
abbrev pub early_checks : (sized sound in_turn finite : Bool) → List Check
early_checks sized sound in_turn finite =
    (Size if not sized)
    ∷ (Setting if not sound)
    ∷ (Turn if not in_turn)
    ∷ (Entry if not finite)
    ∷ []

-- what a vector becomes that takes the numbers of another: one of another length stays
abbrev pub replaced : (from to : List Float) → List Float
replaced from to = cond (eqb (length to) (length from)) from to

-- ---- a step is offered

-- refusals 1 to 5 and 9 and the kernel's door, and then the trial
unfoldable pub offering : Asked → ℕ → (point gradient hessian step trial scratch : List Float) → Answer Offer
unfolding size all_finite door offer
offering asked n point gradient hessian step trial scratch =
    unless (proposal_checks asked.sound asked.state n point gradient hessian step trial scratch)
    (unless (step_checks asked.allowance asked.state) (then (offer n point) (door asked.choice n asked.state.radius gradient hessian scratch)))

-- a step p with its passes, p·g, p·H·p and ‖p‖
abbrev pub measured : ℕ → (gradient hessian : List Float) → (passes : ℕ) → (p : List Float) → Offered
measured n gradient hessian passes p = record { passes = passes; slope = dot p gradient; curvature = weighted n p hessian p; norm = norm p }

abbrev pub told : ℕ → (gradient hessian : List Float) → Answer Offer → Result Offered Refusal
told n gradient hessian (refused r) = Err r
told n gradient hessian (given o) = Ok (measured n gradient hessian o.passes o.step)

-- the lists are those at entry, those with a prime at exit
pub record Offers (n : ℕ) (gradient hessian : List Float) (answer : Answer Offer) (r : Result Offered Refusal) (step trial scratch step' trial' scratch' : List Float) : Type 0 where
  pub says : r ≡ told n gradient hessian answer
  pub leaves_step : step' ≡ left_in (λ o. o.step) answer step
  pub leaves_trial : trial' ≡ left_in (λ o. o.trial) answer trial
  pub leaves_scratch : scratch' ≡ scratch_after answer scratch

-- ---- what a call of a session returns, or leaves where it is by `&mut`
-- "A refusal returns its number only. Session, point, step and every other output keep their bits."

-- a session, and what a call says
abbrev pub saying : {S : Type 0} → Session S → Outcome → After S
saying s outcome = record { session = s; outcome = outcome }

-- by the answer that the call gives to a session s
abbrev pub returned : {S A : Type 0} → (A → Session S) → (A → Said) → Answer A → Session S → After S
returned session said (refused r) s = saying s (Err r)
returned session said (given a) s = saying (session a) (Ok (said a))

-- what a proposal comes to by the offer that it found
abbrev pub after_offer : {S : Type 0} → Kind S → Session S → Result Offered Refusal → After S
after_offer kind s (Err r) = saying s (Err r)
after_offer kind s (Ok o) = saying (turned s (in_phase (AwaitingCost (kind.promise s.state.cost o.slope o.curvature) o.norm) s.state)) (Ok (Proposed o.passes))

abbrev pub after_proposal : {S : Type 0} → Answer (Proposal S) → Session S → After S
after_proposal = returned (λ p. p.session) (λ p. Proposed p.offer.passes)

-- s and the lists are those at entry, those with a prime at exit
pub record Proposes {S : Type 0} (answer : Answer (Proposal S)) (s : Session S) (step trial scratch : List Float) (r : After S) (step' trial' scratch' : List Float) : Type 0 where
  pub says : r ≡ after_proposal answer s
  pub leaves_step : step' ≡ left_in (λ p. p.offer.step) answer step
  pub leaves_trial : trial' ≡ left_in (λ p. p.offer.trial) answer trial
  pub leaves_scratch : scratch' ≡ scratch_after answer scratch
