-- Demand 3, of every choice of kernels whose steps have n numbers, and of ours. Assumes nothing.
use mathlib.Core.Path.{◌≡◌, refl, sym, ◌∙◌, subst}
use mathlib.Core.Bool.{false, not}
use mathlib.Core.List.{List}
use Prim.Native.Nat.{ℕ}
use lib.Dec.{T, T_not}
use lib.Ieee.{Float}
use Rattle.vectors.specs.Refusal.{Answer, given}
use Rattle.kernels.specs.Kernel.{Kernel, Proper}
use Rattle.kernels.proofs.Choices.{kernel_proper}
use Rattle.trustregion.specs.Settings.{in_range, chosen}
use Rattle.offer.specs.Offer.{start_checks}
use Rattle.trustregion.specs.Session.{Session, start}
use Rattle.offer.specs.State.{awaits_cost}
use Rattle.offer.specs.Run.{Trial, run, final, calls, lent_same, Thinned}
use Rattle.trustregion.specs.Run.{Station, Call, Entry, respond, never_reaches, strike}
use Rattle.trustregion.specs.Demand3.{Fair, Within, Same_run, Demand_3, Too_hidden}
use Rattle.trustregion.specs.declared.settings.Settings.{Settings}
use Rattle.offer.proofs.Checks.{unless_elim, clash}
use Rattle.offer.proofs.Runs.{Replays}
use Rattle.trustregion.proofs.Answers.{joined}
use Rattle.trustregion.proofs.Alike.{Alike, alike_refl}
use Rattle.trustregion.proofs.Replay.{strike_replays}
use Rattle.trustregion.proofs.Trials.{Clear, strike_seen, thinned_trials}
use Rattle.trustregion.proofs.Fair.{run_sound}
use Rattle.trustregion.proofs.HiddenTrials.{too_hidden}

-- each answer is a step of n numbers, or a refusal from 6 on
abbrev pub All_proper : (Settings → Kernel) → Type 0
All_proper kernel = (t : Settings) (n : ℕ) (radius : Float) (g H : List Float) → Proper n (kernel t n radius g H)

module _ (kernel : Settings → Kernel) (proper : All_proper kernel) where
  struck : (start : Station) → T (not (awaits_cost start.session.state.phase))
      → (whole : List Call) → T (lent_same (run (respond kernel) start whole))
      → T (never_reaches start.session.settings.allowance start.session.state.count (run (respond kernel) start whole))
      → (kept : List Entry) → Thinned (strike (run (respond kernel) start whole)) kept
      → Same_run kernel start whole kept
  struck start idle whole lent never kept thin =
      let clear : Clear kernel false start whole = λ w. absurd (T_not (awaits_cost start.session.state.phase) idle w) in
      let a : Replays (respond kernel) Alike start whole start kept = strike_replays kernel proper whole false start start kept lent never clear (alike_refl start, refl) thin in
      let ends : final (respond kernel) start (calls kept) ≡ joined (final (respond kernel) start whole) (final (respond kernel) start (calls kept)) = sym a.ends.same in
      record {
        replies = a.replies;
        kept_trials = thinned_trials thin ∙ strike_seen kernel whole false start clear;
        phase = λ i. (ends i).session.state.phase;
        radius = λ i. (ends i).session.state.radius;
        point = λ i. (ends i).lent.point;
        cost = λ i. (ends i).session.state.cost;
        gradient = λ i. (ends i).lent.gradient;
        hessian = λ i. (ends i).lent.hessian;
      }

  pub for_proper : Demand_3 kernel
  for_proper = record {
    struck = struck;
    fair = λ start whole. run_sound kernel (λ (t : Settings) (x : Trial). Fair t.eta x) (λ t x w. w.fair) whole start;
    within = λ start whole. run_sound kernel (λ (t : Settings) (x : Trial). Within t.max_radius x) (λ t x w. w.within) whole start;
  }

-- a session that was started is not inside a trial
pub started_idle : (t : Settings) (f : Float) (s : Session) → start t f ≡ given s → T (not (awaits_cost s.state.phase))
unfolding start
started_idle t f s = unless_elim (λ (a : Answer Session). a ≡ given s → T (not (awaits_cost s.state.phase))) (start_checks (in_range t) f) _ (λ r e. absurd (clash e)) (λ w e. idle e tt)
  where
    same : {x : Session} → given x ≡ given s → x ≡ s
    same e = cc

    idle : {x : Session} → given x ≡ given s → T (not (awaits_cost x.state.phase)) → T (not (awaits_cost s.state.phase))
    idle e = subst (λ (x : Session). T (not (awaits_cost x.state.phase))) (same e)

pub for_our_kernels : Demand_3 chosen
for_our_kernels = for_proper chosen (λ t. kernel_proper t.choice)

-- the count is there to stop a session that would go on so all night
pub stops_our_kernels : Too_hidden chosen
stops_our_kernels = too_hidden chosen (λ t. kernel_proper t.choice)
