-- The calls of a run are the calls of the code: whatever meets the predicate that a contract of the code states, at a station, is what the run has there, and that meets it. Assumes nothing.
use mathlib.Core.Path.{◌≡◌, refl, sym, ◌∙◌}
use mathlib.Core.List.{List}
use Prim.Native.Nat.{ℕ}
use lib.Ieee.{Float}
use Rattle.vectors.specs.Refusal.{Answer, refused, given}
use Rattle.kernels.specs.Kernel.{Kernel}
use Rattle.offer.specs.Run.{Does}
use Rattle.offer.proofs.Runs.{does}
use Rattle.sr1.specs.Session.{Proposal, Judgement}
use Rattle.sr1.specs.Calls.{After, after_proposal, after_judgement, Proposes, Judges}
use Rattle.sr1.specs.Run.{Station, propose, answer, outcome, on_proposal, on_judgement, proposal_at, judgement_at, respond}
use Rattle.sr1.specs.declared.settings.Settings.{Settings}

-- what the code returns, by the answer
module _ (s : Station) where
  says_proposal : (a : Answer Proposal) → after_proposal a s.session ≡ record { session = (on_proposal s a).after.session; outcome = outcome (on_proposal s a).reply }
  unfolding on_proposal
  says_proposal (refused r) = refl
  says_proposal (given x) = refl

  says_judgement : (F : Float) (a : Answer Judgement) → after_judgement a s.session ≡ record { session = (on_judgement s F a).after.session; outcome = outcome (on_judgement s F a).reply }
  unfolding on_judgement
  says_judgement F (refused r) = refl
  says_judgement F (given x) = refl

-- and so what it does
module _ (kernel : Settings → Kernel) (s : Station) (n : ℕ) where
  pub run_proposes : (r : After) (step trial scratch : List Float) → Proposes (proposal_at kernel s n) s.session s.lent.step s.lent.trial s.lent.scratch r step trial scratch
      → Does outcome (respond kernel (propose n) s) r.outcome r.session (record { point = s.lent.point; gradient = s.lent.gradient; hessian = s.lent.hessian; step = step; trial = trial; scratch = scratch })
  unfolding respond on_proposal
  run_proposes r step trial scratch p =
      let e = p.says ∙ says_proposal s (proposal_at kernel s n) in
      does outcome _ (λ i. (e i).outcome) (λ i. (e i).session) (λ i. record { point = s.lent.point; gradient = s.lent.gradient; hessian = s.lent.hessian; step = p.leaves_step i; trial = p.leaves_trial i; scratch = p.leaves_scratch i })

  pub run_judges : (F : Float) (G : List Float) (r : After) (point gradient hessian scratch : List Float) → Judges (judgement_at s n F G) s.session s.lent.point s.lent.gradient s.lent.hessian s.lent.scratch r point gradient hessian scratch
      → Does outcome (respond kernel (answer n F G) s) r.outcome r.session (record { point = point; gradient = gradient; hessian = hessian; step = s.lent.step; trial = s.lent.trial; scratch = scratch })
  unfolding respond on_judgement
  run_judges F G r point gradient hessian scratch p =
      let e = p.says ∙ says_judgement s F (judgement_at s n F G) in
      does outcome _ (λ i. (e i).outcome) (λ i. (e i).session) (λ i. record { point = p.leaves_point i; gradient = p.leaves_gradient i; hessian = p.leaves_hessian i; step = s.lent.step; trial = s.lent.trial; scratch = p.leaves_scratch i })

  -- and what the run has meets the predicate
  pub proposes_so : let d = respond kernel (propose n) s in
      Proposes (proposal_at kernel s n) s.session s.lent.step s.lent.trial s.lent.scratch (record { session = d.after.session; outcome = outcome d.reply }) d.after.lent.step d.after.lent.trial d.after.lent.scratch
  unfolding respond on_proposal
  proposes_so = record { says = sym (says_proposal s (proposal_at kernel s n)); leaves_step = refl; leaves_trial = refl; leaves_scratch = refl }

  pub judges_so : (F : Float) (G : List Float) → let d = respond kernel (answer n F G) s in
      Judges (judgement_at s n F G) s.session s.lent.point s.lent.gradient s.lent.hessian s.lent.scratch (record { session = d.after.session; outcome = outcome d.reply })
      d.after.lent.point d.after.lent.gradient d.after.lent.hessian d.after.lent.scratch
  unfolding respond on_judgement
  judges_so F G = record { says = sym (says_judgement s F (judgement_at s n F G)); leaves_point = refl; leaves_gradient = refl; leaves_hessian = refl; leaves_scratch = refl }
