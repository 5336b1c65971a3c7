-- The count of a run's session is the one that its transcript tells. Assumes nothing.
use mathlib.Core.Path.{◌≡◌, refl}
use mathlib.Core.Bool.{Bool, true, false, not, cond}
use Prim.Native.Nat.{ℕ, ◌+◌}
use lib.Dec.{T, leb}
use lib.Ieee.{is_nan}
use lib.Ieee.Bits.{is_true}
use Rattle.vectors.specs.Refusal.{refused, given}
use Rattle.vectors.proofs.Sizes.{each_holds}
use Rattle.kernels.specs.Kernel.{Kernel}
use Rattle.offer.specs.Run.{perform, was_refused}
use Rattle.offer.proofs.Counts.{level}
use Rattle.offer.proofs.Runs.{perform_elim}
use Rattle.trustregion.specs.Session.{sound, awaiting, settled}
use Rattle.trustregion.specs.Run.{Station, Call, proposed, judged, renewed, Reply, Done, on_proposal, on_judgement, on_renewal, respond, opens_trial, took_nan, count_after}
use Rattle.trustregion.specs.declared.settings.Settings.{Settings}
use Rattle.trustregion.proofs.Ends.{sound_tests}
use Rattle.trustregion.proofs.Answers.{Came, refuses, offers, judges, renews, alone}

pub record Counts (s : Station) (d : Done) : Type 0 where
  pub settings : d.after.session.settings ≡ s.session.settings
  pub count : d.after.session.state.count ≡ count_after d.reply s.session.state.count
  -- an answer is taken where the count is not above the allowance
  pub low : T (took_nan d.reply) → leb s.session.state.count s.session.settings.allowance ≡ true

came_counts : (kernel : Settings → Kernel) (s t : Station) (d e : Done) → Came kernel s t d e → Counts s d
unfolding on_proposal on_judgement on_renewal awaiting settled sound
came_counts kernel s t d e (refuses r w v l m) = record { settings = refl; count = refl; low = λ w. absurd w }
came_counts kernel s t d e (offers n m z u i) = record { settings = refl; count = refl; low = λ w. absurd w }
came_counts kernel s t d e (judges F p i u) = record { settings = refl; count = refl; low = λ w. (each_holds (sound_tests s.session) (is_true _ u)).1.1.0 }
came_counts kernel s t d e (renews g H due) = record { settings = refl; count = refl; low = λ w. absurd w }

pub counts : (kernel : Settings → Kernel) (c : Call) (s : Station) → Counts s (perform (respond kernel) c s)
counts kernel = perform_elim (respond kernel) (λ (s : Station) (d : Done). Counts s d) (λ v s d h. record { settings = h.settings; count = h.count; low = h.low }) (λ q s. came_counts kernel s s _ _ (alone kernel q s))

-- ---- by the kinds of reply

pub refused_count : (r : Reply) → T (was_refused r) → (k : ℕ) → count_after r k ≡ k
refused_count (refused x) w k = refl
refused_count (given (proposed p x n)) w k = absurd w
refused_count (given (judged t)) w k = absurd w
refused_count (given renewed) w k = absurd w

pub opening_count : (r : Reply) → T (opens_trial r) → (k : ℕ) → count_after r k ≡ k
opening_count (refused x) w k = absurd w
opening_count (given (proposed p x n)) w k = refl
opening_count (given (judged t)) w k = absurd w
opening_count (given renewed) w k = absurd w

pub nan_count : (r : Reply) → T (took_nan r) → (k : ℕ) → count_after r k ≡ k + 1
nan_count (refused x) w k = absurd w
nan_count (given (proposed p x n)) w k = absurd w
nan_count (given (judged t)) w k = rw (is_true (is_nan t.cost) w)
nan_count (given renewed) w k = absurd w

-- a reply that is no NaN taken keeps two counts on one level
pub level_kept : (r : Reply) → T (not (took_nan r)) → (allowance k l : ℕ) → level allowance k ≡ level allowance l → level allowance (count_after r k) ≡ level allowance (count_after r l)
level_kept (refused x) w a k l e = e
level_kept (given (proposed p x n)) w a k l e = e
level_kept (given (judged t)) w a k l e = go (is_nan t.cost) w
  where
    go : (b : Bool) → T (not b) → level a (cond b (k + 1) 0) ≡ level a (cond b (l + 1) 0)
    go true v = absurd v
    go false v = refl
level_kept (given renewed) w a k l e = refl
