-- What one call comes to on two stations that share what a run goes by: on both the same refusal, or the same answer, and then its checks have passed. Assumes nothing.
use mathlib.Core.Path.{◌≡◌, refl, ap}
use mathlib.Core.List.{List, [], ◌∷◌}
use Prim.Native.Nat.{ℕ}
use lib.Dec.{T, leb}
use lib.ListN.{length}
use lib.Ieee.{Float, eq}
use Rattle.float.specs.Constants.{nought}
use Rattle.vectors.specs.Refusal.{Answer, refused, given, Check, ◌if◌, unless, then}
use Rattle.kernels.specs.Kernel.{Kernel, Made}
use Rattle.vectors.specs.declared.refusal.Refusal.{Refusal}
use Rattle.vectors.specs.declared.refusal.Refusal.TheVariants.{Radius, Hidden}
use Rattle.offer.specs.Offer.{all_sized, proposal_checks, Offer, offered, offer_checks, offer, step_checks}
use Rattle.trustregion.specs.Session.{sound, Proposal, awaiting, proposal, Judgement, rho, radius_by, settled, answer_checks, verdict_checks, judge, judgement_checks, judgement, Renewal, renewal_checks, renewed_by, renewal}
use Rattle.offer.specs.State.{is_ready, awaits_cost, awaits_derivatives, Promise, promised}
use Rattle.trustregion.specs.Run.{Station, Request, propose, cost, derivatives, Done, on_proposal, on_judgement, on_renewal, proposal_at, judgement_at, renewal_at, respond}
use Rattle.trustregion.specs.declared.settings.Settings.{Settings}
use Rattle.offer.specs.declared.state.Phase.{Phase}
use Rattle.offer.specs.declared.state.Phase.TheVariants.{Ready, AwaitingCost, AwaitingDerivatives}
use Rattle.offer.proofs.Checks.{unless_elim, then_elim, not_not, clash, scratch_length}
use Rattle.offer.proofs.Counts.{level}
use Rattle.offer.proofs.Runs.{answer_elim, unless_both}

-- What a run goes by, of s; the rest, of t. (Another field of a session is said here, to be the one or the other, and in no other place of these files.)
abbrev pub joined : Station → Station → Station
joined s t = record {
  session = record { settings = s.session.settings; state = record { radius = s.session.state.radius; cost = s.session.state.cost; phase = s.session.state.phase; count = t.session.state.count } };
  lent = record { point = s.lent.point; gradient = s.lent.gradient; hessian = s.lent.hessian; step = t.lent.step; trial = t.lent.trial; scratch = t.lent.scratch };
}

-- Of the rest it goes by the level of the count, by the lengths and, where a cost is awaited, by step and trial.
abbrev pub Near : Station → Station → Type 0
Near s t = level s.session.settings.allowance s.session.state.count ≡ level s.session.settings.allowance t.session.state.count

abbrev pub sizes : Station → ℕ × ℕ × ℕ
sizes s = (length s.lent.step, length s.lent.trial, length s.lent.scratch)

abbrev pub Held : Station → Station → Type 0
Held s t = T (awaits_cost s.session.state.phase) → (s.lent.step ≡ t.lent.step) × (s.lent.trial ≡ t.lent.trial)

pub promise_held : (phase : Phase) (p : Promise) → promised phase ≡ given p → T (awaits_cost phase)
promise_held Ready p e = absurd (clash e)
promise_held AwaitingDerivatives p e = absurd (clash e)
promise_held (AwaitingCost m o) p e = tt

-- ---- what a call can come to

abbrev pub with_scratch : Station → List Float → Station
with_scratch s w = record {
  session = s.session;
  lent = record { point = s.lent.point; gradient = s.lent.gradient; hessian = s.lent.hessian; step = s.lent.step; trial = s.lent.trial; scratch = w };
}

abbrev pub offered_at : Station → ℕ → Made → Proposal
offered_at s n m = awaiting s.session n s.lent.gradient s.lent.hessian (offered n s.lent.point m)

abbrev pub judged_by : Station → Float → Promise → Judgement
judged_by s F p =
    let ratio = rho s.session.state.cost F p.value in
    settled s.session F ratio (radius_by s.session ratio p.norm) s.lent.point s.lent.trial

-- Refused, it keeps all but what the scratch holds.
pub data Came (kernel : Settings → Kernel) (s t : Station) : Done → Done → Type 0 where
  refuses : (r : Refusal) (w v : List Float) → length w ≡ length s.lent.scratch → length v ≡ length t.lent.scratch
      → Came kernel s t (record { reply = refused r; after = with_scratch s w }) (record { reply = refused r; after = with_scratch (joined s t) v })
  offers : (n : ℕ) (m : Made) → T (all_sized n s.lent.point s.lent.gradient s.lent.hessian s.lent.step s.lent.trial s.lent.scratch) → T (is_ready s.session.state.phase)
      → kernel s.session.settings n s.session.state.radius s.lent.gradient s.lent.hessian ≡ given m
      → Came kernel s t (on_proposal s (given (offered_at s n m))) (on_proposal (joined s t) (given (offered_at (joined s t) n m)))
  judges : (F : Float) (p : Promise) → promised s.session.state.phase ≡ given p → T (sound s.session)
      → Came kernel s t (on_judgement s F (given (judged_by s F p))) (on_judgement (joined s t) F (given (judged_by (joined s t) F p)))
  renews : (g H : List Float) → T (awaits_derivatives s.session.state.phase)
      → Came kernel s t (on_renewal s (given (renewed_by s.session g H))) (on_renewal (joined s t) (given (renewed_by (joined s t).session g H)))

-- ---- a proposal's checks, and what follows them
abbrev pub lent_checks : Station → ℕ → List Check
lent_checks x n = proposal_checks (sound x.session) x.session.state n x.lent.point x.lent.gradient x.lent.hessian x.lent.step x.lent.trial x.lent.scratch

abbrev pub follows : Station → ℕ → Answer Offer → Answer Proposal
follows x n = then (λ (o : Offer). given (awaiting x.session n x.lent.gradient x.lent.hessian o))

-- of the count they ask whether it is above the allowance
pub same_checks : (s t : Station) → sizes s ≡ sizes t → leb s.session.state.count s.session.settings.allowance ≡ leb t.session.state.count s.session.settings.allowance
    → (n : ℕ) → lent_checks s n ≡ lent_checks (joined s t) n
unfolding sound
same_checks s t as_large low n =
    let step : length s.lent.step ≡ length t.lent.step = λ i. (as_large i).0 in
    let trial : length s.lent.trial ≡ length t.lent.trial = λ i. (as_large i).1 in
    let scratch : length s.lent.scratch ≡ length t.lent.scratch = λ i. (as_large i).2 in
    rw (step, trial, scratch, low)

module _ (kernel : Settings → Kernel) (s t : Station) (near : Near s t) (as_large : sizes s ≡ sizes t) (held : Held s t) where
  low : leb s.session.state.count s.session.settings.allowance ≡ leb t.session.state.count s.session.settings.allowance
  low = λ i. (near i).0

  trial_size : length s.lent.trial ≡ length t.lent.trial
  trial_size = λ i. (as_large i).1

  -- ---- a proposal looks at the lengths alone
  abbrev Proposals : Answer Proposal → Answer Proposal → Type 0
  Proposals a b = Came kernel s t (on_proposal s a) (on_proposal (joined s t) b)

  no_proposal : (r : Refusal) → Proposals (refused r) (refused r)
  unfolding on_proposal
  no_proposal r = refuses r _ _ (scratch_length {A = Proposal} (refused r) s.lent.scratch) (scratch_length {A = Proposal} (refused r) t.lent.scratch)

  came_proposal : (n : ℕ) → Proposals (proposal_at kernel s n) (proposal_at kernel (joined s t) n)
  unfolding proposal offer
  came_proposal n =
      let allowance = s.session.settings.allowance in
      let step = kernel s.session.settings n s.session.state.radius s.lent.gradient s.lent.hessian in
      let way = then (offer n s.lent.point) step in
      unless_both Proposals (same_checks s t as_large low n)
      (follows s n (unless (step_checks allowance s.session.state) way)) (follows (joined s t) n (unless (step_checks allowance (joined s t).session.state) way)) no_proposal (λ w.
      unless_both (λ (x y : Answer Offer). Proposals (follows s n x) (follows (joined s t) n y)) {cs = step_checks allowance s.session.state} {ds = step_checks allowance (joined s t).session.state}
      (λ i. (Radius if eq s.session.state.radius nought) ∷ (Hidden if (near i).1) ∷ []) way way no_proposal (λ far.
      then_elim (λ (x : Answer Offer). Proposals (follows s n x) (follows (joined s t) n x)) (offer n s.lent.point) step no_proposal (λ m e.
      unless_elim (λ (x : Answer Offer). Proposals (follows s n x) (follows (joined s t) n x)) (offer_checks (offered n s.lent.point m)) (given (offered n s.lent.point m)) no_proposal (λ v.
      offers n m (not_not (all_sized n s.lent.point s.lent.gradient s.lent.hessian s.lent.step s.lent.trial s.lent.scratch) w.0) (not_not (is_ready s.session.state.phase) w.1.1.0) e))))

  -- ---- the answer with a cost looks at the trial where a cost is awaited
  module _ (n : ℕ) (F : Float) where
    abbrev Judgements : Answer Judgement → Answer Judgement → Type 0
    Judgements a b = Came kernel s t (on_judgement s F a) (on_judgement (joined s t) F b)

    no_judgement : (r : Refusal) → Judgements (refused r) (refused r)
    unfolding on_judgement
    no_judgement r = refuses r _ _ refl refl

    same_answer_checks : judgement_checks s.session n s.lent.point s.lent.trial ≡ judgement_checks (joined s t).session n s.lent.point t.lent.trial
    unfolding sound
    same_answer_checks = rw (trial_size, low)

    abbrev judge_at : Station → Promise → Answer Judgement
    judge_at x = judge x.session F x.lent.point x.lent.trial

    came_judgement : Judgements (judgement_at s n F) (judgement_at (joined s t) n F)
    unfolding judgement judge
    came_judgement =
        unless_both Judgements same_answer_checks (then (judge_at s) (promised s.session.state.phase)) (then (judge_at (joined s t)) (promised s.session.state.phase)) no_judgement (λ w.
        answer_elim (λ (x : Answer Promise). Judgements (then (judge_at s) x) (then (judge_at (joined s t)) x)) (promised s.session.state.phase) no_judgement (λ p e.
        unless_both Judgements (ap (answer_checks F) (held (promise_held s.session.state.phase p e)).1) _ _ no_judgement (λ u.
        unless_both Judgements {cs = verdict_checks (radius_by s.session (rho s.session.state.cost F p.value) p.norm)} refl _ _ no_judgement (λ v.
        judges F p e (not_not (sound s.session) w.1.0)))))

  -- ---- the answer with derivatives looks at none of it
  module _ (n : ℕ) (g H : List Float) where
    abbrev Renewals : Answer Renewal → Answer Renewal → Type 0
    Renewals a b = Came kernel s t (on_renewal s a) (on_renewal (joined s t) b)

    no_renewal : (r : Refusal) → Renewals (refused r) (refused r)
    unfolding on_renewal
    no_renewal r = refuses r _ _ refl refl

    came_renewal : Renewals (renewal_at s n g H) (renewal_at (joined s t) n g H)
    unfolding renewal sound
    came_renewal =
        unless_both Renewals {cs = renewal_checks s.session n g H s.lent.gradient s.lent.hessian} {ds = renewal_checks (joined s t).session n g H s.lent.gradient s.lent.hessian} (rw low) (given (renewed_by s.session g H)) (given (renewed_by (joined s t).session g H)) no_renewal (λ w.
        renews g H (not_not (awaits_derivatives s.session.state.phase) w.1.1.0))

  pub comes : (q : Request) → Came kernel s t (respond kernel q s) (respond kernel q (joined s t))
  unfolding respond
  comes (propose n) = came_proposal n
  comes (cost n F) = came_judgement n F
  comes (derivatives n g H) = came_renewal n g H

-- and on one
pub alone : (kernel : Settings → Kernel) (q : Request) (s : Station) → Came kernel s s (respond kernel q s) (respond kernel q s)
alone kernel q s = comes kernel s s refl refl (λ w. (refl, refl)) q
