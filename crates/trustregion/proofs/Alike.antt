-- Two stations that differ at most in the count, on one level, and in what step, trial and scratch hold, are answered alike; and stay so, but for the level. Assumes nothing.
use mathlib.Core.Path.{◌≡◌, refl, sym, ◌∙◌, subst}
use mathlib.Core.List.{List}
use Prim.Native.Nat.{ℕ}
use lib.Dec.{T}
use lib.ListN.{length}
use lib.Ieee.{Float, nan, is_nan}
use lib.Ieee.Bits.{is_true}
use Rattle.float.proofs.Nan.{is_nan_lem, sub_nan, div_nan, lt_nan}
use Rattle.vectors.specs.Refusal.{refused, given}
use Rattle.kernels.specs.Kernel.{Kernel, Proper}
use Rattle.vectors.specs.Vector.{plus}
use Rattle.vectors.proofs.Vectors.{length_plus}
use Rattle.offer.specs.Run.{Vectors, Lending, own, others, lending_it, entry, perform, was_refused, refused_by_1, lent_at}
use Rattle.offer.proofs.Checks.{scratch_length}
use Rattle.offer.proofs.Lengths.{lent_true}
use Rattle.offer.proofs.Runs.{perform_elim, Follows}
use Rattle.trustregion.specs.Session.{turned, awaiting, rho, next_radius, settled}
use Rattle.offer.specs.State.{in_phase, is_ready, awaits_cost, Promise}
use Rattle.trustregion.specs.Run.{Station, Request, Call, Reply, Done, on_proposal, on_judgement, on_renewal, respond, opens_trial, took_nan}
use Rattle.trustregion.specs.declared.settings.Settings.{Settings}
use Rattle.offer.specs.declared.state.Phase.{Phase}
use Rattle.offer.specs.declared.state.Phase.TheVariants.{Ready, AwaitingCost, AwaitingDerivatives}
use Rattle.trustregion.proofs.Answers.{joined, Near, sizes, Held, promise_held, offered_at, judged_by, Came, refuses, offers, judges, renews, comes, alone}

-- The same but for the rest, that as large, and where a cost is awaited the same step and trial.
pub record Alike (s t : Station) : Type 0 where
  pub same : joined s t ≡ t
  pub as_large : sizes s ≡ sizes t
  pub held : Held s t

pub same_phase : {s t : Station} → Alike s t → s.session.state.phase ≡ t.session.state.phase
same_phase a = λ i. (a.same i).session.state.phase

still_awaits : {s t : Station} → Alike s t → T (awaits_cost s.session.state.phase) → T (awaits_cost t.session.state.phase)
still_awaits a = subst (λ (x : Phase). T (awaits_cost x)) (same_phase a)

pub alike_refl : (s : Station) → Alike s s
alike_refl s = record { same = refl; as_large = refl; held = λ w. (refl, refl) }

pub alike_trans : (r s t : Station) → Alike r s → Alike s t → Alike r t
alike_trans r s t a b = record {
  same = (λ i. joined (a.same i) t) ∙ b.same;
  as_large = a.as_large ∙ b.as_large;
  held = λ w. let v = still_awaits a w in ((a.held w).0 ∙ (b.held v).0, (a.held w).1 ∙ (b.held v).1);
}

pub alike_sym : (s t : Station) → Alike s t → Alike t s
alike_sym s t a = record {
  same = sym (λ i. joined (a.same i) s);
  as_large = sym a.as_large;
  held = λ w. let v = subst (λ (x : Phase). T (awaits_cost x)) (sym (same_phase a)) w in (sym (a.held v).0, sym (a.held v).1);
}

-- alike sessions, each lent v
pub elsewhere : (v : Vectors) (s t : Station) → Alike s t → Alike (lending_it v s) (lending_it v t)
elsewhere v s t a = record { same = λ i. lending_it v (a.same i); as_large = refl; held = λ w. (refl, refl) }

-- s in another phase; and as a rejection with the radius kept leaves it
abbrev in_turn : Phase → Station → Station
in_turn phase s = record { session = turned s.session (in_phase phase s.session.state); lent = s.lent }

abbrev pub back : Station → Station
back = in_turn Ready

pub back_alike : (s t : Station) → Alike s t → Alike (back s) (back t)
back_alike s t a = record { same = λ i. back (a.same i); as_large = a.as_large; held = λ w. absurd w }

-- ---- alike stations are answered alike, and stay so

came_follows : (kernel : Settings → Kernel) (s t : Station) (d e : Done) → sizes s ≡ sizes t → Held s t → Came kernel s t d e → Follows (respond kernel) Alike d e
unfolding on_proposal on_judgement on_renewal awaiting settled
came_follows kernel s t d e z held (refuses r w v l m) = record { reply = refl; after = record { same = refl; as_large = λ i. ((z i).0, (z i).1, (l ∙ (λ j. (z j).2) ∙ sym m) i); held = held } }
came_follows kernel s t d e z held (offers n m fits ready i) =
    let cleared : length (on_proposal s (given (offered_at s n m))).after.lent.scratch ≡ length (on_proposal (joined s t) (given (offered_at (joined s t) n m))).after.lent.scratch =
    scratch_length (given (offered_at s n m)) s.lent.scratch ∙ (λ j. (z j).2) ∙ sym (scratch_length (given (offered_at s n m)) t.lent.scratch) in
    record { reply = refl; after = record { same = refl; as_large = λ i. (length m.step, length (plus n m.step s.lent.point), cleared i); held = λ w. (refl, refl) } }
came_follows kernel s t d e z held (judges F p i w) =
    let h = held (promise_held s.session.state.phase p i) in
    record { reply = rw (h.0, h.1); after = record { same = rw h.1; as_large = z; held = λ v. h } }
came_follows kernel s t d e z held (renews g H due) = record { reply = refl; after = record { same = refl; as_large = z; held = λ w. absurd w } }

follow_own : (kernel : Settings → Kernel) (q : Request) (s t : Station) → Near s t → Alike s t → Follows (respond kernel) Alike (respond kernel q s) (respond kernel q t)
follow_own kernel q s t near a =
    subst (λ (x : Station). Follows (respond kernel) Alike (respond kernel q s) (respond kernel q x)) a.same
    (came_follows kernel s t _ _ a.as_large a.held (comes kernel s t near a.as_large a.held q))

-- ---- a refused call keeps

came_refused : (kernel : Settings → Kernel) (s t : Station) (d e : Done) → Came kernel s t d e → T (was_refused d.reply) → Alike d.after s
unfolding on_proposal on_judgement on_renewal
came_refused kernel s t d e (refuses r w v l m) u = record { same = refl; as_large = λ i. (length s.lent.step, length s.lent.trial, l i); held = λ h. (refl, refl) }
came_refused kernel s t d e (offers n m z u i) w = absurd w
came_refused kernel s t d e (judges F p i u) w = absurd w
came_refused kernel s t d e (renews g H due) w = absurd w

pub refused_keeps : (kernel : Settings → Kernel) (c : Call) (s : Station) → T (was_refused (perform (respond kernel) c s).reply) → Alike (perform (respond kernel) c s).after s
refused_keeps kernel = perform_elim (respond kernel) (λ (s : Station) (d : Done). T (was_refused d.reply) → Alike d.after s) (λ v s d h w. elsewhere s.lent d.after (lending_it v s) (h w))
    (λ q s. came_refused kernel s s _ _ (alone kernel q s))

by_1_refused : (r : Reply) → T (refused_by_1 r) → T (was_refused r)
by_1_refused (refused r) w = tt
by_1_refused (given a) w = absurd w

-- where each call that is not refused by 1 is lent the station's own
pub follow : (kernel : Settings → Kernel) (c : Call) (s t : Station) → T (lent_at (entry (respond kernel) c s)) → Near s t → Alike s t → Follows (respond kernel) Alike (perform (respond kernel) c s) (perform (respond kernel) c t)
follow kernel c s t = go c.lending
  where
    q : Request
    q = c.request

    go : (l : Lending) → let x : Call = record { request = q; lending = l } in
        T (lent_at (entry (respond kernel) x s)) → Near s t → Alike s t → Follows (respond kernel) Alike (perform (respond kernel) x s) (perform (respond kernel) x t)
    go own w near a = follow_own kernel q s t near a
    go (others v) w near a =
        let x : Call = record { request = q; lending = others v } in
        let e = (follow_own kernel q (lending_it v s) (lending_it v t) near (elsewhere v s t a)).reply in
        let r : T (was_refused (perform (respond kernel) x s).reply) = by_1_refused (perform (respond kernel) x s).reply w in
        record {
          reply = e;
          after =
              alike_trans (perform (respond kernel) x s).after s (perform (respond kernel) x t).after (refused_keeps kernel x s r)
              (alike_trans s t (perform (respond kernel) x t).after a
              (alike_sym (perform (respond kernel) x t).after t (refused_keeps kernel x t (subst (λ (y : Reply). T (was_refused y)) e r))));
        }

-- ---- a NaN cost that is taken leaves the station as a rejection with the radius kept

rho_nan : (f m : Float) → rho f nan m ≡ nan
rho_nan f m = rw (sub_nan.second, div_nan.first)

radius_nan : (norm radius max_radius : Float) → next_radius nan norm radius max_radius ≡ radius
unfolding next_radius
radius_nan norm radius max_radius = rw (lt_nan.first, lt_nan.second)

judged_nan : (s : Station) (p : Promise) → Alike (on_judgement s nan (given (judged_by s nan p))).after (back s)
unfolding on_judgement settled
judged_nan s p = record { same = rw (rho_nan, radius_nan, lt_nan.second); as_large = refl; held = λ h. (refl, refl) }

came_nan : (kernel : Settings → Kernel) (s t : Station) (d e : Done) → Came kernel s t d e → T (took_nan d.reply) → Alike d.after (back s)
unfolding on_proposal on_judgement on_renewal
came_nan kernel s t d e (refuses r w v l m) u = absurd u
came_nan kernel s t d e (offers n m z u i) w = absurd w
came_nan kernel s t d e (judges F p i u) w = subst (λ (x : Float). Alike (on_judgement s x (given (judged_by s x p))).after (back s)) (sym (is_nan_lem F (is_true (is_nan F) w))) (judged_nan s p)
came_nan kernel s t d e (renews g H due) w = absurd w

pub nan_closes : (kernel : Settings → Kernel) (c : Call) (s : Station) → T (took_nan (perform (respond kernel) c s).reply) → Alike (perform (respond kernel) c s).after (back s)
nan_closes kernel = perform_elim (respond kernel) (λ (s : Station) (d : Done). T (took_nan d.reply) → Alike d.after (back s)) (λ v s d h w. elsewhere s.lent d.after (back (lending_it v s)) (h w))
    (λ q s. came_nan kernel s s _ _ (alone kernel q s))

-- ---- and so, but for the phase, does a proposal that is made

pub ready_is : (phase : Phase) → T (is_ready phase) → Ready ≡ phase
ready_is Ready w = refl
ready_is (AwaitingCost m o) w = absurd w
ready_is AwaitingDerivatives w = absurd w

module _ (kernel : Settings → Kernel) (proper : (t : Settings) (n : ℕ) (radius : Float) (g H : List Float) → Proper n (kernel t n radius g H)) where
  came_opens : (s t : Station) (d e : Done) → Came kernel s t d e → T (opens_trial d.reply) → Alike (back d.after) s
  unfolding on_proposal on_judgement on_renewal awaiting
  came_opens s t d e (refuses r w v l m) u = absurd u
  came_opens s t d e (offers n m fits ready i) w =
      let f = lent_true n (length s.lent.point) (length s.lent.gradient) (length s.lent.hessian) (length s.lent.step) (length s.lent.trial) (length s.lent.scratch) (is_true _ fits) in
      let long : length m.step ≡ n = rw i at (proper s.session.settings n s.session.state.radius s.lent.gradient s.lent.hessian) in
      let step : length m.step ≡ length s.lent.step = long ∙ sym f.step in
      let trial : length (plus n m.step s.lent.point) ≡ length s.lent.trial = length_plus n m.step s.lent.point ∙ sym f.trial in
      record {
        same = λ j. joined (in_turn (ready_is s.session.state.phase ready j) s) s;
        as_large = λ j. (step j, trial j, scratch_length (given (offered_at s n m)) s.lent.scratch j);
        held = λ v. absurd v;
      }
  came_opens s t d e (judges F p i u) w = absurd w
  came_opens s t d e (renews g H due) w = absurd w

  pub proposal_opens : (c : Call) (s : Station) → T (opens_trial (perform (respond kernel) c s).reply) → Alike (back (perform (respond kernel) c s).after) s
  proposal_opens = perform_elim (respond kernel) (λ (s : Station) (d : Done). T (opens_trial d.reply) → Alike (back d.after) s) (λ v s d h w. elsewhere s.lent (back d.after) (lending_it v s) (h w))
      (λ q s. came_opens s s _ _ (alone kernel q s))
