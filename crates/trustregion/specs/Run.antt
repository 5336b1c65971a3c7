-- A run of a `TrustRegion` session, and the run with its NaN trials struck out. Definitions only. (What a run is, of either kind of session: `offer`'s specs/Run.antt.)
use Rattle.std.specs.Prelude.{Bool, true, false, not, ◌&&◌, cond, List, [], ◌∷◌, Ok, Err, ℕ, eqb, Float}
use Rattle.std.specs.Float.Ieee.{is_nan}
use Rattle.vectors.specs.Refusal.{Answer, refused, given, left_in}
use Rattle.kernels.specs.Kernel.{Kernel}
use Rattle.offer.specs.Run as Run
use Rattle.offer.specs.Run.{Vectors, Trial, trial_at, answered, proposing, was_refused}
use Rattle.trustregion.specs.Session.{Session, Proposal, proposal, Judgement, judgement, Renewal, renewal}
use Rattle.offer.specs.State.{Outcome, verdict_of, counted}
use Rattle.trustregion.specs.declared.settings.Settings.{Settings}
use Rattle.offer.specs.declared.state.Said.TheVariants.{Proposed, Taken}

-- ---- what is asked, and what is told

-- Each request brings its own n, an answer its numbers.
pub data Request : Type 0 where
  propose : ℕ → Request
  cost : ℕ → Float → Request
  derivatives : ℕ → (gradient hessian : List Float) → Request

pub data Told : Type 0 where
  proposed : (step trial : List Float) (passes : ℕ) → Told
  judged : Trial → Told
  renewed : Told

abbrev pub Station : Type 0
Station = Run.Station Session

abbrev pub Call : Type 0
Call = Run.Call Request

abbrev pub Reply : Type 0
Reply = Answer Told

abbrev pub Done : Type 0
Done = Run.Done Session Told

abbrev pub Entry : Type 0
Entry = Run.Entry Request Told

-- the reply as a call of the code says it
abbrev pub outcome : Reply → Outcome
outcome (refused r) = Err r
outcome (given (proposed step trial passes)) = Ok (Proposed passes)
outcome (given (judged t)) = Ok (verdict_of t.accepted t.ratio)
outcome (given renewed) = Ok Taken

-- ---- one call: its reply, and the station afterwards

unfoldable pub on_proposal : Station → Answer Proposal → Done
on_proposal = answered tell (λ (p : Proposal). p.session) (proposing (λ (p : Proposal). p.offer.step) (λ (p : Proposal). p.offer.trial))
  where
    tell : Proposal → Told
    tell p = proposed p.offer.step p.offer.trial p.offer.passes

unfoldable pub on_judgement : Station → Float → Answer Judgement → Done
on_judgement s F = answered tell (λ (j : Judgement). j.session) leave s
  where
    tell : Judgement → Told
    tell j = judged (trial_at (λ x. x.state) s F j.ratio j.accepted j.session)

    leave : Answer Judgement → Vectors → Vectors
    leave a v = record { point = left_in (λ (j : Judgement). j.point) a v.point; gradient = v.gradient; hessian = v.hessian; step = v.step; trial = v.trial; scratch = v.scratch }

unfoldable pub on_renewal : Station → Answer Renewal → Done
on_renewal = answered (λ (r : Renewal). renewed) (λ (r : Renewal). r.session) leave
  where
    leave : Answer Renewal → Vectors → Vectors
    leave a v = record {
      point = v.point;
      gradient = left_in (λ (r : Renewal). r.gradient) a v.gradient;
      hessian = left_in (λ (r : Renewal). r.hessian) a v.hessian;
      step = v.step;
      trial = v.trial;
      scratch = v.scratch;
    }

abbrev pub judgement_at : Station → ℕ → Float → Answer Judgement
judgement_at s n F = judgement s.session n F s.lent.point s.lent.trial

abbrev pub renewal_at : Station → ℕ → (gradient hessian : List Float) → Answer Renewal
renewal_at s n gradient hessian = renewal s.session n gradient hessian s.lent.gradient s.lent.hessian

module _ (kernel : Settings → Kernel) where
  abbrev pub proposal_at : Station → ℕ → Answer Proposal
  proposal_at s n = proposal kernel s.session n s.lent.point s.lent.gradient s.lent.hessian s.lent.step s.lent.trial s.lent.scratch

  unfoldable pub respond : Request → Station → Done
  unfolding proposal judgement renewal on_proposal on_judgement on_renewal
  respond (propose n) s = on_proposal s (proposal_at s n)
  respond (cost n F) s = on_judgement s F (judgement_at s n F)
  respond (derivatives n gradient hessian) s = on_renewal s (renewal_at s n gradient hessian)

-- ---- kinds of reply

-- a test of a reply that is not refused, by its kinds
abbrev pub reply_is : (made : Bool) (taken : Trial → Bool) → Reply → Bool
reply_is made taken (refused r) = false
reply_is made taken (given (proposed step trial passes)) = made
reply_is made taken (given (judged t)) = taken t
reply_is made taken (given renewed) = false

abbrev pub opens_trial : Reply → Bool
opens_trial = reply_is true (λ t. false)

abbrev pub took_cost : Reply → Bool
took_cost = reply_is false (λ t. true)

abbrev pub took_nan : Reply → Bool
took_nan = reply_is false (λ t. is_nan t.cost)

-- ---- the count of NaN answers in a row, by what was answered

-- after a reply, where so many were before it
abbrev pub count_after : Reply → ℕ → ℕ
count_after (refused r) k = k
count_after (given (proposed step trial passes)) k = k
count_after (given (judged t)) k = counted t.cost k
count_after (given renewed) k = 0

-- "runs in which the longer run never reaches the setting": no reply leaves the count there
abbrev pub never_reaches : (allowance count : ℕ) → List Entry → Bool
never_reaches allowance k [] = true
never_reaches allowance k (e ∷ es) = not (eqb (count_after e.reply k) allowance) && never_reaches allowance (count_after e.reply k) es

-- ---- striking

-- The next call that is not refused is a cost of NaN.
abbrev pub nan_comes : List Entry → Bool
nan_comes [] = false
nan_comes (e ∷ es) = cond (was_refused e.reply) (nan_comes es) (took_nan e.reply)

-- "strike out every trial answered with NaN, with the refused calls inside it": its proposal, those calls and the answer. `inside` says that we stand in such a trial.
abbrev pub strike_from : (inside : Bool) → List Entry → List Entry
strike_from inside [] = []
strike_from true (e ∷ es) = strike_from (was_refused e.reply) es
strike_from false (e ∷ es) = cond (opens_trial e.reply && nan_comes es) (strike_from true es) (e ∷ strike_from false es)

abbrev pub strike : List Entry → List Entry
strike es = strike_from false es

-- ---- the trials of a run

-- those that were answered
abbrev pub add_trial : Reply → List Trial → List Trial
add_trial (refused r) ts = ts
add_trial (given (proposed p x k)) ts = ts
add_trial (given (judged t)) ts = t ∷ ts
add_trial (given renewed) ts = ts

abbrev pub trials : List Entry → List Trial
trials [] = []
trials (e ∷ es) = add_trial e.reply (trials es)

-- those of them that were not answered with NaN
abbrev pub seen : List Trial → List Trial
seen [] = []
seen (t ∷ ts) = cond (is_nan t.cost) (seen ts) (t ∷ seen ts)
