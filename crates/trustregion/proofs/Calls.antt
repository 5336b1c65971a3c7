-- The calls of a run are the calls of the code: whatever meets the predicate that a contract of the code states, at a station, is what the run has there, and that meets it. Assumes nothing.
use mathlib.Core.Path.{◌≡◌, refl, sym, ◌∙◌}
use mathlib.Core.List.{List}
use Prim.Native.Nat.{ℕ}
use lib.Ieee.{Float}
use Rattle.vectors.specs.Refusal.{Answer, refused, given}
use Rattle.kernels.specs.Kernel.{Kernel}
use Rattle.offer.specs.Run.{Does}
use Rattle.offer.proofs.Runs.{does}
use Rattle.trustregion.specs.Session.{Proposal, Judgement, Renewal}
use Rattle.trustregion.specs.Calls.{After, after_proposal, after_judgement, after_renewal, Proposes, Judges, Renews}
use Rattle.trustregion.specs.Run.{Station, propose, cost, derivatives, outcome, on_proposal, on_judgement, on_renewal, proposal_at, judgement_at, renewal_at, respond}
use Rattle.trustregion.specs.declared.settings.Settings.{Settings}

-- what the code returns, by the answer
module _ (s : Station) where
  says_judgement : (F : Float) (a : Answer Judgement) → after_judgement a s.session ≡ record { session = (on_judgement s F a).after.session; outcome = outcome (on_judgement s F a).reply }
  unfolding on_judgement
  says_judgement F (refused r) = refl
  says_judgement F (given x) = refl

  says_proposal : (a : Answer Proposal) → after_proposal a s.session ≡ record { session = (on_proposal s a).after.session; outcome = outcome (on_proposal s a).reply }
  unfolding on_proposal
  says_proposal (refused r) = refl
  says_proposal (given x) = refl

  says_renewal : (a : Answer Renewal) → after_renewal a s.session ≡ record { session = (on_renewal s a).after.session; outcome = outcome (on_renewal s a).reply }
  unfolding on_renewal
  says_renewal (refused r) = refl
  says_renewal (given x) = refl

-- and so what it does
module _ (kernel : Settings → Kernel) (s : Station) (n : ℕ) where
  pub run_judges : (F : Float) (r : After) (point : List Float) → Judges (judgement_at s n F) s.session s.lent.point r point
      → Does outcome (respond kernel (cost n F) s) r.outcome r.session (record { point = point; gradient = s.lent.gradient; hessian = s.lent.hessian; step = s.lent.step; trial = s.lent.trial; scratch = s.lent.scratch })
  unfolding respond on_judgement
  run_judges F r point p =
      let e = p.says ∙ says_judgement s F (judgement_at s n F) in
      does outcome _ (λ i. (e i).outcome) (λ i. (e i).session) (λ i. record { point = p.leaves_point i; gradient = s.lent.gradient; hessian = s.lent.hessian; step = s.lent.step; trial = s.lent.trial; scratch = s.lent.scratch })

  pub run_renews : (g H : List Float) (r : After) (gradient hessian : List Float) → Renews (renewal_at s n g H) s.session s.lent.gradient s.lent.hessian r gradient hessian
      → Does outcome (respond kernel (derivatives n g H) s) r.outcome r.session (record { point = s.lent.point; gradient = gradient; hessian = hessian; step = s.lent.step; trial = s.lent.trial; scratch = s.lent.scratch })
  unfolding respond on_renewal
  run_renews g H r gradient hessian p =
      let e = p.says ∙ says_renewal s (renewal_at s n g H) in
      does outcome _ (λ i. (e i).outcome) (λ i. (e i).session) (λ i. record { point = s.lent.point; gradient = p.leaves_gradient i; hessian = p.leaves_hessian i; step = s.lent.step; trial = s.lent.trial; scratch = s.lent.scratch })

  pub run_proposes : (r : After) (step trial scratch : List Float) → Proposes (proposal_at kernel s n) s.session s.lent.step s.lent.trial s.lent.scratch r step trial scratch
      → Does outcome (respond kernel (propose n) s) r.outcome r.session (record { point = s.lent.point; gradient = s.lent.gradient; hessian = s.lent.hessian; step = step; trial = trial; scratch = scratch })
  unfolding respond on_proposal
  run_proposes r step trial scratch p =
      let e = p.says ∙ says_proposal s (proposal_at kernel s n) in
      does outcome _ (λ i. (e i).outcome) (λ i. (e i).session) (λ i. record { point = s.lent.point; gradient = s.lent.gradient; hessian = s.lent.hessian; step = p.leaves_step i; trial = p.leaves_trial i; scratch = p.leaves_scratch i })

  -- and what the run has meets the predicate
  pub proposes_so : let d = respond kernel (propose n) s in
      Proposes (proposal_at kernel s n) s.session s.lent.step s.lent.trial s.lent.scratch (record { session = d.after.session; outcome = outcome d.reply }) d.after.lent.step d.after.lent.trial d.after.lent.scratch
  unfolding respond on_proposal
  proposes_so = record { says = sym (says_proposal s (proposal_at kernel s n)); leaves_step = refl; leaves_trial = refl; leaves_scratch = refl }

  pub judges_so : (F : Float) → let d = respond kernel (cost n F) s in
      Judges (judgement_at s n F) s.session s.lent.point (record { session = d.after.session; outcome = outcome d.reply }) d.after.lent.point
  unfolding respond on_judgement
  judges_so F = record { says = sym (says_judgement s F (judgement_at s n F)); leaves_point = refl }

  pub renews_so : (g H : List Float) → let d = respond kernel (derivatives n g H) s in
      Renews (renewal_at s n g H) s.session s.lent.gradient s.lent.hessian (record { session = d.after.session; outcome = outcome d.reply }) d.after.lent.gradient d.after.lent.hessian
  unfolding respond on_renewal
  renews_so g H = record { says = sym (says_renewal s (renewal_at s n g H)); leaves_gradient = refl; leaves_hessian = refl }
