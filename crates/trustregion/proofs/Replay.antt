-- The struck run, replayed from the same start without some of its refused calls, is answered as it was, and ends alike. Assumes nothing.
use mathlib.Core.Path.{◌≡◌, refl, sym, ◌∙◌, ap}
use mathlib.Core.Bool.{Bool, true, false, not, ◌&&◌, cond}
use mathlib.Core.List.{List, [], ◌∷◌}
use Prim.Native.Nat.{ℕ, ◌+◌}
use lib.Dec.{T, eqb}
use lib.Ieee.{Float}
use lib.Ieee.Fits.{and_l, and_r}
use Rattle.kernels.specs.Kernel.{Kernel, Proper}
use Rattle.offer.specs.Run.{perform, entry, run, was_refused, lent_at, lent_same, Thinned, none}
use Rattle.trustregion.specs.Run.{Station, Call, Reply, Entry, respond, opens_trial, took_nan, count_after, never_reaches, nan_comes, strike_from}
use Rattle.trustregion.specs.declared.settings.Settings.{Settings}
use Rattle.offer.proofs.Checks.{false_is}
use Rattle.offer.proofs.Counts.{level, level_up}
use Rattle.offer.proofs.Runs.{Replays, replay_keep, replay_strike, thinned_elim}
use Rattle.trustregion.proofs.Answers.{Near}
use Rattle.trustregion.proofs.Alike.{Alike, alike_trans, follow, refused_keeps, back, back_alike, nan_closes, proposal_opens}
use Rattle.trustregion.proofs.Counts.{counts, refused_count, opening_count, nan_count, level_kept}
use Rattle.trustregion.proofs.Trials.{turns, nan_no_opening, Clear, kept_clear}

-- the count is not at the allowance
abbrev Apart : Station → Type 0
Apart s = T (not (eqb s.session.state.count s.session.settings.allowance))

module _ (kernel : Settings → Kernel) where
  -- ---- NaN trials struck: outside such a trial the two stations are alike; inside it they are once it is answered, and that answer is still to come
  abbrev Standing : (inside : Bool) → Station → Station → Type 0
  Standing false s t = Alike s t × Near s t
  Standing true s t = Alike (back s) t × Near s t × Apart s

  abbrev Never : Station → List Call → Type 0
  Never s cs = T (never_reaches s.session.settings.allowance s.session.state.count (run (respond kernel) s cs))

  -- what the induction shows of the calls cs
  abbrev Restrikes : List Call → Type 0
  Restrikes cs =
      (inside : Bool) (s t : Station) (kept : List Entry) → T (lent_same (run (respond kernel) s cs)) → Never s cs → Clear kernel inside s cs → Standing inside s t
      → Thinned (strike_from inside (run (respond kernel) s cs)) kept → Replays (respond kernel) Alike s cs t kept

  module _ (proper : (t : Settings) (n : ℕ) (radius : Float) (g H : List Float) → Proper n (kernel t n radius g H)) where
    one_more : (c : Call) (cs : List Call) → Restrikes cs → Restrikes (c ∷ cs)
    one_more c cs ih inside s t kept w never = at inside
      where
        reply : Reply
        reply = (perform (respond kernel) c s).reply

        next : Station
        next = (perform (respond kernel) c s).after

        later : Bool
        later = nan_comes (run (respond kernel) next cs)

        w' : T (lent_same (run (respond kernel) next cs))
        w' = and_r (lent_at (entry (respond kernel) c s)) (lent_same (run (respond kernel) next cs)) w

        allowance : ℕ
        allowance = s.session.settings.allowance

        count : ℕ
        count = s.session.state.count

        allowed : next.session.settings.allowance ≡ allowance
        allowed = λ i. ((counts kernel c s).settings i).allowance

        apart : T (not (eqb (count_after reply count) allowance))
        apart = and_l (not (eqb (count_after reply count) allowance)) (never_reaches allowance (count_after reply count) (run (respond kernel) next cs)) never

        never' : Never next cs
        never' = rw (allowed, (counts kernel c s).count) (and_r (not (eqb (count_after reply count) allowance)) (never_reaches allowance (count_after reply count) (run (respond kernel) next cs)) never)

        apart' : Apart next
        apart' = rw (allowed, (counts kernel c s).count) apart

        -- where the reply leaves the count on its level
        near' : (u : Station) → level allowance (count_after reply count) ≡ level allowance u.session.state.count → Near next u
        near' u e = rw (allowed, (counts kernel c s).count) e

        stays : count_after reply count ≡ count → Near s t → Near next t
        stays e near = near' t (ap (level allowance) e ∙ near)

        within : (b : Bool) → (T b → T (was_refused reply)) → (T (not b) → T (not (was_refused reply))) → T (cond b later (took_nan reply)) → Alike (back s) t → Near s t → Apart s
            → Thinned (strike_from b (run (respond kernel) next cs)) kept → Replays (respond kernel) Alike s (c ∷ cs) t kept
        within true k l v a near off thin =
            replay_strike (respond kernel) Alike c s t cs kept
            (ih true next t kept w' never' v (alike_trans (back next) (back s) t (back_alike next s (refused_keeps kernel c s (k tt))) a, stays (refused_count reply (k tt) count) near, apart') thin)
        within false k l v a near off thin =
            let up : count_after reply count ≡ count + 1 = nan_count reply v count in
            let same : level allowance (count_after reply count) ≡ level allowance count =
            ap (level allowance) up ∙ level_up allowance count ((counts kernel c s).low v) (false_is _ off) (false_is _ (rw (sym up) apart)) in
            replay_strike (respond kernel) Alike c s t cs kept
            (ih false next t kept w' never' (λ x. absurd ((turns kernel c s).closes (l tt) (nan_no_opening reply v) x)) (alike_trans next (back s) t (nan_closes kernel c s v) a, near' t (same ∙ near)) thin)

        outside : (b : Bool) → (T b → T (opens_trial reply && later)) → (T (not b) → T (not (opens_trial reply && later))) → Clear kernel false s (c ∷ cs) → Alike s t → Near s t
            → Thinned (cond b (strike_from true (run (respond kernel) next cs)) (entry (respond kernel) c s ∷ strike_from false (run (respond kernel) next cs))) kept → Replays (respond kernel) Alike s (c ∷ cs) t kept
        outside true k l v a near thin =
            let opens : T (opens_trial reply) = and_l (opens_trial reply) later (k tt) in
            replay_strike (respond kernel) Alike c s t cs kept
            (ih true next t kept w' never' (and_r (opens_trial reply) later (k tt)) (alike_trans (back next) s t (proposal_opens kernel proper c s opens) a, stays (opening_count reply opens count) near, apart') thin)
        outside false k l v a near thin =
            let x = kept_clear kernel c s cs v (l tt) in
            thinned_elim (Replays (respond kernel) Alike s (c ∷ cs) t) (entry (respond kernel) c s) (strike_from false (run (respond kernel) next cs)) kept thin
            (λ ds h.
            let f = follow kernel c s t (and_l (lent_at (entry (respond kernel) c s)) (lent_same (run (respond kernel) next cs)) w) near a in
            let theirs : (perform (respond kernel) c t).after.session.state.count ≡ count_after reply t.session.state.count =
            (counts kernel c t).count ∙ ap (λ (r : Reply). count_after r t.session.state.count) (sym f.reply) in
            replay_keep (respond kernel) Alike c s t cs ds f
            (ih false next (perform (respond kernel) c t).after ds w' never' x.1
            (f.after, near' (perform (respond kernel) c t).after (level_kept reply x.0 allowance count t.session.state.count near ∙ ap (level allowance) (sym theirs))) h))
            (λ ds r h. replay_strike (respond kernel) Alike c s t cs ds
            (ih false next t ds w' never' x.1 (alike_trans next s t (refused_keeps kernel c s r) a, stays (refused_count reply r count) near) h))

        at : (inside : Bool) → Clear kernel inside s (c ∷ cs) → Standing inside s t → Thinned (strike_from inside (run (respond kernel) s (c ∷ cs))) kept → Replays (respond kernel) Alike s (c ∷ cs) t kept
        at true v a = within (was_refused reply) (λ x. x) (λ x. x) v a.0 a.1 a.2
        at false v a = outside (opens_trial reply && later) (λ x. x) (λ x. x) v a.0 a.1

    pub strike_replays : (cs : List Call) → Restrikes cs
    strike_replays [] false s t kept w never v a none = record { replies = refl; ends = a.0 }
    strike_replays [] true s t kept w never v a thin = absurd v
    strike_replays (c ∷ cs) inside s t kept w never v a thin = one_more c cs (strike_replays cs) inside s t kept w never v a thin
