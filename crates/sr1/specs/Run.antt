-- A run of an `SR1TrustRegion` session. Definitions only. (What a run is, of either kind of session: `offer`'s specs/Run.antt.)
use Rattle.std.specs.Prelude.{List, Ok, Err, ℕ, Float}
use Rattle.vectors.specs.Refusal.{Answer, refused, given, left_in, scratch_after}
use Rattle.kernels.specs.Kernel.{Kernel}
use Rattle.offer.specs.Run as Run
use Rattle.offer.specs.Run.{Vectors, Trial, trial_at, answered, proposing}
use Rattle.sr1.specs.Session.{Session, Proposal, proposal, Judgement, judgement}
use Rattle.offer.specs.State.{Outcome, verdict_of}
use Rattle.sr1.specs.declared.settings.Settings.{Settings}
use Rattle.offer.specs.declared.state.Said.{Said}

-- ---- what is asked, and what is told

-- Each request brings its own n, an answer the cost F and the gradient G.
pub data Request : Type 0 where
  propose : ℕ → Request
  answer : ℕ → (F : Float) → (G : List Float) → Request

-- of a proposal that it is done, or made with so many passes, and the step and the trial as it leaves them
pub data Told : Type 0 where
  proposed : Said → (step trial : List Float) → Told
  judged : Trial → Told

abbrev pub Station : Type 0
Station = Run.Station Session

abbrev pub Done : Type 0
Done = Run.Done Session Told

-- the reply as a call of the code says it
abbrev pub outcome : Answer Told → Outcome
outcome (refused r) = Err r
outcome (given (proposed said step trial)) = Ok said
outcome (given (judged t)) = Ok (verdict_of t.accepted t.ratio)

-- ---- one call: its reply, and the station afterwards

unfoldable pub on_proposal : Station → Answer Proposal → Done
on_proposal = answered (λ (p : Proposal). proposed p.said p.step p.trial) (λ (p : Proposal). p.session) (proposing (λ (p : Proposal). p.step) (λ (p : Proposal). p.trial))

unfoldable pub on_judgement : Station → Float → Answer Judgement → Done
on_judgement s F = answered tell (λ (j : Judgement). j.session) leave s
  where
    tell : Judgement → Told
    tell j = judged (trial_at (λ x. x.state) s F j.ratio j.accepted j.session)

    leave : Answer Judgement → Vectors → Vectors
    leave a v = record {
      point = left_in (λ (j : Judgement). j.point) a v.point;
      gradient = left_in (λ (j : Judgement). j.gradient) a v.gradient;
      hessian = left_in (λ (j : Judgement). j.hessian) a v.hessian;
      step = v.step;
      trial = v.trial;
      scratch = scratch_after a v.scratch;
    }

abbrev pub judgement_at : Station → ℕ → Float → (G : List Float) → Answer Judgement
judgement_at s n F G = judgement s.session n F G s.lent.point s.lent.step s.lent.trial s.lent.gradient s.lent.hessian s.lent.scratch

module _ (kernel : Settings → Kernel) where
  abbrev pub proposal_at : Station → ℕ → Answer Proposal
  proposal_at s n = proposal kernel s.session n s.lent.point s.lent.gradient s.lent.hessian s.lent.step s.lent.trial s.lent.scratch

  unfoldable pub respond : Request → Station → Done
  unfolding proposal judgement on_proposal on_judgement
  respond (propose n) s = on_proposal s (proposal_at s n)
  respond (answer n F G) s = on_judgement s F (judgement_at s n F G)
