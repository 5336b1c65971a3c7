-- What a call by value returns and a call by `&mut` leaves, with the vectors at exit, for the answer that Session.antt gives. Definitions only.
-- "A refusal returns its number only. Session, point, step and every other output keep their bits."
use Rattle.std.specs.Prelude.{◌≡◌, List, Result, Float}
use Rattle.vectors.specs.Refusal.{Answer, left_in}
use Rattle.vectors.specs.declared.refusal.Refusal.{Refusal}
use Rattle.offer.specs.State.{result_of, verdict_of}
use Rattle.offer.specs.Calls as any
use Rattle.offer.specs.Calls.{returned}
use Rattle.offer.specs.declared.session.After as afters
use Rattle.offer.specs.declared.state.Said.TheVariants.{Taken}
use Rattle.trustregion.specs.Session.{Session, Proposal, Judgement, Renewal}
use Rattle.trustregion.specs.declared.settings.Settings.{Settings}

abbrev pub After : Type 0
After = afters.After Settings

abbrev pub begun : Answer Session → Result Session Refusal
begun = result_of

abbrev pub after_proposal : Answer Proposal → Session → After
after_proposal = any.after_proposal

abbrev pub after_judgement : Answer Judgement → Session → After
after_judgement = returned (λ j. j.session) (λ j. verdict_of j.accepted j.ratio)

abbrev pub after_renewal : Answer Renewal → Session → After
after_renewal = returned (λ r. r.session) (λ r. Taken)

-- ---- each call: s and the lists are those at entry, those with a prime at exit

abbrev pub Proposes : (answer : Answer Proposal) (s : Session) (step trial scratch : List Float) (r : After) (step' trial' scratch' : List Float) → Type 0
Proposes = any.Proposes

pub record Judges (answer : Answer Judgement) (s : Session) (point : List Float) (r : After) (point' : List Float) : Type 0 where
  pub says : r ≡ after_judgement answer s
  pub leaves_point : point' ≡ left_in (λ j. j.point) answer point

pub record Renews (answer : Answer Renewal) (s : Session) (gradient hessian : List Float) (r : After) (gradient' hessian' : List Float) : Type 0 where
  pub says : r ≡ after_renewal answer s
  pub leaves_gradient : gradient' ≡ left_in (λ x. x.gradient) answer gradient
  pub leaves_hessian : hessian' ≡ left_in (λ x. x.hessian) answer hessian
