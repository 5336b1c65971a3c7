-- The trials of the struck run are those of the whole run that were not answered with NaN. Assumes nothing.
use mathlib.Core.Path.{◌≡◌, refl, ap, ◌∙◌, subst}
use mathlib.Core.Bool.{Bool, true, false, not, ◌&&◌, cond}
use mathlib.Core.List.{List, [], ◌∷◌}
use lib.Dec.{T}
use lib.Ieee.{is_nan, lt}
use lib.Ieee.Fits.{and_l, and_r}
use Rattle.vectors.specs.Refusal.{refused, given}
use Rattle.kernels.specs.Kernel.{Kernel}
use Rattle.trustregion.specs.Session.{awaiting, rho, settled}
use Rattle.offer.specs.State.{awaits_cost, awaits_derivatives}
use Rattle.offer.specs.Run.{Trial, perform, run, was_refused, Thinned, none, keep, drop}
use Rattle.offer.proofs.Runs.{perform_elim}
use Rattle.trustregion.specs.Run.{Station, Call, proposed, judged, renewed, Reply, Done, Entry, on_proposal, on_judgement, on_renewal, respond, opens_trial, took_cost, took_nan, nan_comes, strike_from, add_trial, trials, seen}
use Rattle.trustregion.specs.declared.settings.Settings.{Settings}
use Rattle.offer.specs.declared.state.Phase.{Phase}
use Rattle.offer.specs.declared.state.Phase.TheVariants.{Ready, AwaitingDerivatives}
use Rattle.trustregion.proofs.Answers.{promise_held, Came, refuses, offers, judges, renews, alone}
use Rattle.trustregion.proofs.Alike.{Alike, same_phase, refused_keeps}

-- ---- how a reply and the phases before and after it go together

pub record Turns (before : Phase) (r : Reply) (after : Phase) : Type 0 where
  -- a cost is taken only where one is awaited
  pub awaited : T (took_cost r) → T (awaits_cost before)
  -- after an answer that was taken no cost is awaited
  pub closes : T (not (was_refused r)) → T (not (opens_trial r)) → T (awaits_cost after) → ⊥
  -- after a proposal that was made one is
  pub opens : T (opens_trial r) → T (awaits_cost after)
  -- what is neither refused nor of a trial is derivatives, and they were awaited
  pub due : T (not (was_refused r)) → T (not (opens_trial r)) → T (not (took_cost r)) → T (awaits_derivatives before)

came_turns : (kernel : Settings → Kernel) (s t : Station) (d e : Done) → Came kernel s t d e → Turns s.session.state.phase d.reply d.after.session.state.phase
unfolding on_proposal on_judgement on_renewal awaiting settled
came_turns kernel s t d e (refuses r w v l m) = record { awaited = λ w. absurd w; closes = λ w. absurd w; opens = λ w. absurd w; due = λ w. absurd w }
came_turns kernel s t d e (offers n m z u i) = record { awaited = λ w. absurd w; closes = λ w v. absurd v; opens = λ w. tt; due = λ w v. absurd v }
came_turns kernel s t d e (judges F p i u) = record {
  awaited = λ w. promise_held s.session.state.phase p i;
  closes = λ w v. go (lt s.session.settings.eta (rho s.session.state.cost F p.value));
  opens = λ w. absurd w;
  due = λ w v x. absurd x;
}
  where
    go : (b : Bool) → T (awaits_cost (cond b AwaitingDerivatives Ready)) → ⊥
    go true w = w
    go false w = w
came_turns kernel s t d e (renews g H due) = record { awaited = λ w. absurd w; closes = λ w v u. u; opens = λ w. absurd w; due = λ w v x. due }

pub turns : (kernel : Settings → Kernel) (c : Call) (s : Station) → Turns s.session.state.phase (perform (respond kernel) c s).reply (perform (respond kernel) c s).after.session.state.phase
turns kernel = perform_elim (respond kernel) (λ (s : Station) (d : Done). Turns s.session.state.phase d.reply d.after.session.state.phase) (λ v s d h. h) (λ q s. came_turns kernel s s _ _ (alone kernel q s))

-- ---- what a reply adds to the trials

add_seen : (r : Reply) (ts us : List Trial) → T (not (took_nan r)) → ts ≡ seen us → add_trial r ts ≡ seen (add_trial r us)
add_seen (refused k) ts us w e = e
add_seen (given (proposed p x k)) ts us w e = e
add_seen (given renewed) ts us w e = e
add_seen (given (judged t)) ts us w e = go (is_nan t.cost) w
  where
    go : (b : Bool) → T (not b) → t ∷ ts ≡ cond b (seen us) (t ∷ seen us)
    go true v = absurd v
    go false v = ap (λ (x : List Trial). t ∷ x) e

-- a struck reply is no trial, or one answered with NaN
skip_seen : (r : Reply) (ts us : List Trial) → (T (took_cost r) → T (took_nan r)) → ts ≡ seen us → ts ≡ seen (add_trial r us)
skip_seen (refused k) ts us w e = e
skip_seen (given (proposed p x k)) ts us w e = e
skip_seen (given renewed) ts us w e = e
skip_seen (given (judged t)) ts us w e = go (is_nan t.cost) (w tt)
  where
    go : (b : Bool) → T b → ts ≡ cond b (seen us) (t ∷ seen us)
    go true v = e
    go false v = absurd v

-- the kinds of reply shut each other out
refused_no_cost : (r : Reply) → T (was_refused r) → T (took_cost r) → T (took_nan r)
refused_no_cost (refused k) w v = absurd v
refused_no_cost (given (proposed p x k)) w v = absurd v
refused_no_cost (given (judged t)) w v = absurd w
refused_no_cost (given renewed) w v = absurd v

opens_no_cost : (r : Reply) → T (opens_trial r) → T (took_cost r) → T (took_nan r)
opens_no_cost (refused k) w v = absurd v
opens_no_cost (given (proposed p x k)) w v = absurd v
opens_no_cost (given (judged t)) w v = absurd w
opens_no_cost (given renewed) w v = absurd v

pub nan_no_opening : (r : Reply) → T (took_nan r) → T (not (opens_trial r))
nan_no_opening (refused k) w = tt
nan_no_opening (given (proposed p x k)) w = absurd w
nan_no_opening (given (judged t)) w = tt
nan_no_opening (given renewed) w = tt

module _ (kernel : Settings → Kernel) where
  -- outside a struck trial, an awaited cost is none of NaN; inside it is
  abbrev pub Clear : (inside : Bool) → Station → List Call → Type 0
  Clear false s cs = T (awaits_cost s.session.state.phase) → T (not (nan_comes (run (respond kernel) s cs)))
  Clear true s cs = T (nan_comes (run (respond kernel) s cs))

  module _ (c : Call) (s : Station) (cs : List Call) where
    abbrev next : Station
    next = (perform (respond kernel) c s).after

    -- a kept call took no NaN, and what comes after it is clear
    pub kept_clear : Clear false s (c ∷ cs) → T (not (opens_trial (perform (respond kernel) c s).reply && nan_comes (run (respond kernel) next cs))) → T (not (took_nan (perform (respond kernel) c s).reply)) × Clear false next cs
    kept_clear h k = go (perform (respond kernel) c s).reply (λ w. refused_keeps kernel c s w) (turns kernel c s) h k
      where
        go : (r : Reply) → (T (was_refused r) → Alike next s) → Turns s.session.state.phase r next.session.state.phase
            → (T (awaits_cost s.session.state.phase) → T (not (cond (was_refused r) (nan_comes (run (respond kernel) next cs)) (took_nan r))))
            → T (not (opens_trial r && nan_comes (run (respond kernel) next cs)))
            → T (not (took_nan r)) × Clear false next cs
        go (refused x) a b h k = (tt, λ w. h (subst (λ (y : Phase). T (awaits_cost y)) (same_phase (a tt)) w))
        go (given (proposed p x y)) a b h k = (tt, λ w. k)
        go (given (judged t)) a b h k = (h (b.awaited tt), λ w. absurd (b.closes tt tt w))
        go (given renewed) a b h k = (tt, λ w. absurd (b.closes tt tt w))

  -- what the induction shows of the calls cs
  abbrev Kept : List Call → Type 0
  Kept cs = (inside : Bool) (s : Station) → Clear inside s cs → trials (strike_from inside (run (respond kernel) s cs)) ≡ seen (trials (run (respond kernel) s cs))

  one_more : (c : Call) (cs : List Call) → Kept cs → Kept (c ∷ cs)
  one_more c cs ih inside s h = at inside h
    where
      reply : Reply
      reply = (perform (respond kernel) c s).reply

      after : Station
      after = (perform (respond kernel) c s).after

      later : Bool
      later = nan_comes (run (respond kernel) after cs)

      within : (b : Bool) → (T b → T (was_refused reply)) → (T (not b) → T (not (was_refused reply))) → T (cond b later (took_nan reply))
          → trials (strike_from b (run (respond kernel) after cs)) ≡ seen (add_trial reply (trials (run (respond kernel) after cs)))
      within true k l w = skip_seen reply _ _ (refused_no_cost reply (k tt)) (ih true after w)
      within false k l w = skip_seen reply _ _ (λ v. w) (ih false after (λ v. absurd ((turns kernel c s).closes (l tt) (nan_no_opening reply w) v)))

      outside : (b : Bool) → (T b → T (opens_trial reply && later)) → (T (not b) → T (not (opens_trial reply && later))) → Clear false s (c ∷ cs)
          → trials (cond b (strike_from true (run (respond kernel) after cs)) (record { call = c; reply = reply } ∷ strike_from false (run (respond kernel) after cs))) ≡ seen (add_trial reply (trials (run (respond kernel) after cs)))
      outside true k l g = skip_seen reply _ _ (opens_no_cost reply (and_l (opens_trial reply) later (k tt))) (ih true after (and_r (opens_trial reply) later (k tt)))
      outside false k l g = let x = kept_clear c s cs g (l tt) in add_seen reply _ _ x.0 (ih false after x.1)

      at : (inside : Bool) → Clear inside s (c ∷ cs) → trials (strike_from inside (run (respond kernel) s (c ∷ cs))) ≡ seen (trials (run (respond kernel) s (c ∷ cs)))
      at true g = within (was_refused reply) (λ v. v) (λ v. v) g
      at false g = outside (opens_trial reply && later) (λ v. v) (λ v. v) g

  pub strike_seen : (cs : List Call) → Kept cs
  strike_seen [] false s h = refl
  strike_seen [] true s h = absurd h
  strike_seen (c ∷ cs) inside s h = one_more c cs (strike_seen cs) inside s h

-- refused calls tell no trial
pub thinned_trials : {es ds : List Entry} → Thinned es ds → trials ds ≡ trials es
thinned_trials none = refl
thinned_trials (keep e h) = ap (add_trial e.reply) (thinned_trials h)
thinned_trials (drop e w h) = thinned_trials h ∙ go e.reply w _
  where
    go : (r : Reply) → T (was_refused r) → (ts : List Trial) → ts ≡ add_trial r ts
    go (refused k) w ts = refl
    go (given (proposed p x k)) w ts = absurd w
    go (given (judged t)) w ts = absurd w
    go (given renewed) w ts = absurd w
