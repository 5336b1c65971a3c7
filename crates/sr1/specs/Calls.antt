-- What a call by value returns and a call by `&mut` leaves, with the vectors at exit, for the answer that Session.antt gives. Definitions only.
-- "A refusal returns its number only. Session, point, step and every other output keep their bits."
use Rattle.std.specs.Prelude.{◌≡◌, cond, List, Result, Float}
use Rattle.vectors.specs.Vector.{all_finite}
use Rattle.vectors.specs.Refusal.{Answer, checked, left_in, scratch_after}
use Rattle.vectors.specs.declared.refusal.Refusal.{Refusal}
use Rattle.vectors.specs.declared.refusal.Refusal.TheVariants.{Range}
use Rattle.offer.specs.State.{result_of, verdict_of}
use Rattle.offer.specs.Calls.{returned}
use Rattle.offer.specs.declared.session.After as afters
use Rattle.sr1.specs.Session.{Session, Proposal, Judgement}
use Rattle.sr1.specs.declared.settings.Settings.{Settings}

abbrev pub After : Type 0
After = afters.After Settings

abbrev pub begun : Answer Session → Result Session Refusal
begun = result_of

abbrev pub after_proposal : Answer Proposal → Session → After
after_proposal = returned (λ p. p.session) (λ p. p.said)

abbrev pub after_judgement : Answer Judgement → Session → After
after_judgement = returned (λ j. j.session) (λ j. verdict_of j.accepted j.ratio)

-- ---- each call: s and the lists are those at entry, those with a prime at exit

pub record Proposes (answer : Answer Proposal) (s : Session) (step trial scratch : List Float) (r : After) (step' trial' scratch' : List Float) : Type 0 where
  pub says : r ≡ after_proposal answer s
  pub leaves_step : step' ≡ left_in (λ p. p.step) answer step
  pub leaves_trial : trial' ≡ left_in (λ p. p.trial) answer trial
  pub leaves_scratch : scratch' ≡ scratch_after answer scratch

-- the update of a Hessian: what comes next where all of it is finite, and else the old one
pub record Updates (next : List Float) (r : Result (Unit {0}) Refusal) (hessian hessian' : List Float) : Type 0 where
  pub says : r ≡ checked Range (all_finite next)
  pub leaves : hessian' ≡ cond (all_finite next) next hessian

pub record Judges (answer : Answer Judgement) (s : Session) (point gradient hessian scratch : List Float) (r : After) (point' gradient' hessian' scratch' : List Float) : Type 0 where
  pub says : r ≡ after_judgement answer s
  pub leaves_point : point' ≡ left_in (λ j. j.point) answer point
  pub leaves_gradient : gradient' ≡ left_in (λ j. j.gradient) answer gradient
  pub leaves_hessian : hessian' ≡ left_in (λ j. j.hessian) answer hessian
  pub leaves_scratch : scratch' ≡ scratch_after answer scratch
