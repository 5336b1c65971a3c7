-- After as many NaN answers in a row as are allowed the next proposal is refused by 9, and nothing else has moved. Assumes nothing.
use mathlib.Core.Path.{◌≡◌, refl, sym, ◌∙◌, ap, subst}
use mathlib.Core.Bool.{Bool, true, false, not, cond}
use mathlib.Core.List.{List, [], ◌∷◌}
use Prim.Native.Nat.{ℕ, ◌+◌}
use native.Mathlib.Omega.{arith}
use lib.Dec.{T, leb}
use lib.ListN.{length}
use lib.Ieee.{Float, eq, is_nan}
use lib.Ieee.Bits.{is_true}
use borrow.Author.Tests.{le-leb, eq-eqb}
use Rattle.float.specs.Constants.{nought}
use Rattle.vectors.specs.Refusal.{Answer, refused, given, unless, then}
use Rattle.vectors.specs.declared.refusal.Refusal.TheVariants.{Hidden}
use Rattle.kernels.specs.Kernel.{Kernel, Proper}
use Rattle.offer.specs.Offer.{Offer, offer, step_checks}
use Rattle.offer.specs.State.{in_phase, is_ready, awaits_cost, awaits_derivatives}
use Rattle.offer.specs.Run.{Trial, perform, run, final, was_refused}
use Rattle.offer.specs.declared.state.Phase.{Phase}
use Rattle.offer.specs.declared.state.Phase.TheVariants.{Ready, AwaitingCost, AwaitingDerivatives}
use Rattle.offer.proofs.Checks.{None, unless_elim, unless_none, not_not, false_is}
use Rattle.trustregion.specs.Session.{turned, Proposal, proposal}
use Rattle.trustregion.specs.Run.{Station, propose, Call, proposed, judged, renewed, Reply, on_proposal, proposal_at, respond, opens_trial, took_nan, count_after, add_trial, trials, seen}
use Rattle.trustregion.specs.Demand3.{Too_hidden}
use Rattle.trustregion.specs.declared.settings.Settings.{Settings}
use Rattle.trustregion.proofs.Answers.{lent_checks, follows, same_checks}
use Rattle.trustregion.proofs.Alike.{Alike, ready_is, same_phase, alike_trans, alike_refl, back, back_alike, refused_keeps, nan_closes, proposal_opens}
use Rattle.trustregion.proofs.Counts.{counts}
use Rattle.trustregion.proofs.Trials.{Turns, turns}

-- ---- phases

cost_no_derivatives : (p : Phase) → T (awaits_cost p) → T (not (awaits_derivatives p))
cost_no_derivatives Ready w = tt
cost_no_derivatives (AwaitingCost m o) w = tt
cost_no_derivatives AwaitingDerivatives w = absurd w

ready_left : (p : Phase) → T (not (awaits_cost p)) → T (not (awaits_derivatives p)) → Ready ≡ p
ready_left Ready w v = refl
ready_left (AwaitingCost m o) w v = absurd w
ready_left AwaitingDerivatives w v = absurd v

-- a station that is ready is where a rejection leaves it
in_ready : (s : Station) → Ready ≡ s.session.state.phase → back s ≡ s
in_ready s e = λ i. record { session = turned s.session (in_phase (e i) s.session.state); lent = s.lent }

off : (b : Bool) → T (not b) → T b → ⊥
off true w v = w
off false w v = v

-- ---- trials that are all answered with NaN

first_nan : (t : Trial) (ts : List Trial) → seen (t ∷ ts) ≡ [] → T (is_nan t.cost) × (seen ts ≡ [])
first_nan t ts = go (is_nan t.cost)
  where
    go : (b : Bool) → cond b (seen ts) (t ∷ seen ts) ≡ [] → T b × (seen ts ≡ [])
    go true e = (tt, e)
    go false e = absurd (let z : ◌≡◌ {A = ℕ} 0 1 = sym (ap length e) ∙ cc in omega arith)

module _ (kernel : Settings → Kernel) (proper : (t : Settings) (n : ℕ) (radius : Float) (g H : List Float) → Proper n (kernel t n radius g H)) (start : Station) where
  -- s is the start but for the count, the phase and the rest, and awaits no derivatives
  record Waits (s : Station) : Type 0 where
    alike : Alike (back s) start
    undue : T (not (awaits_derivatives s.session.state.phase))

  -- what the induction shows of the calls cs
  abbrev Stays : List Call → Type 0
  Stays cs = (s : Station) → Waits s → seen (trials (run (respond kernel) s cs)) ≡ []
      → Waits (final (respond kernel) s cs) × ((final (respond kernel) s cs).session.state.count ≡ length (trials (run (respond kernel) s cs)) + s.session.state.count)

  one_more : (c : Call) (cs : List Call) → Stays cs → Stays (c ∷ cs)
  one_more c cs ih s i e =
      go (perform (respond kernel) c s).reply (counts kernel c s).count (turns kernel c s) (refused_keeps kernel c s) (proposal_opens kernel proper c s) (nan_closes kernel c s) e
    where
      next : Station
      next = (perform (respond kernel) c s).after

      rest : List Trial
      rest = trials (run (respond kernel) next cs)

      end : Station
      end = final (respond kernel) next cs

      go : (r : Reply) → next.session.state.count ≡ count_after r s.session.state.count → Turns s.session.state.phase r next.session.state.phase
          → (T (was_refused r) → Alike next s) → (T (opens_trial r) → Alike (back next) s) → (T (took_nan r) → Alike next (back s))
          → seen (add_trial r rest) ≡ [] → Waits end × (end.session.state.count ≡ length (add_trial r rest) + s.session.state.count)
      go (refused x) k turn a b d e =
          let w : Waits next = record {
            alike = alike_trans (back next) (back s) start (back_alike next s (a tt)) i.alike;
            undue = subst (λ (p : Phase). T (not (awaits_derivatives p))) (sym (same_phase (a tt))) i.undue;
          } in
          let h = ih next w e in
          (h.0, h.1 ∙ ap (λ (m : ℕ). length rest + m) k)
      go (given (proposed p x m)) k turn a b d e =
          let w : Waits next = record {
            alike = alike_trans (back next) (back s) start (back_alike (back next) s (b tt)) i.alike;
            undue = cost_no_derivatives next.session.state.phase (turn.opens tt);
          } in
          let h = ih next w e in
          (h.0, h.1 ∙ ap (λ (m : ℕ). length rest + m) k)
      go (given (judged t)) k turn a b d e =
          let n = first_nan t rest e in
          let w : Waits next = record {
            alike = alike_trans (back next) (back s) start (back_alike next (back s) (d n.0)) i.alike;
            undue = subst (λ (p : Phase). T (not (awaits_derivatives p))) (sym (same_phase (d n.0))) tt;
          } in
          let h = ih next w n.1 in
          let up : count_after (given (judged t)) s.session.state.count ≡ s.session.state.count + 1 = rw (is_true (is_nan t.cost) n.0) in
          (h.0, h.1 ∙ omega (arith, k, up))
      go (given renewed) k turn a b d e = absurd (off (awaits_derivatives s.session.state.phase) i.undue (turn.due tt tt tt))

  stays : (cs : List Call) → Stays cs
  stays [] s i e = (i, omega arith)
  stays (c ∷ cs) s i e = one_more c cs (stays cs) s i e

  -- ---- the next proposal

  -- where one is made no check applies, and the radius is not zero
  made_so : (s : Station) (n : ℕ) → T (opens_trial (respond kernel (propose n) s).reply) → None (lent_checks s n) × T (not (eq s.session.state.radius nought))
  unfolding respond proposal on_proposal
  made_so s n =
      let checks = step_checks s.session.settings.allowance s.session.state in
      let way = then (offer n s.lent.point) (kernel s.session.settings n s.session.state.radius s.lent.gradient s.lent.hessian) in
      let Opens : Answer Offer → Type 0 = λ (x : Answer Offer). T (opens_trial (on_proposal s (follows s n x)).reply) → None (lent_checks s n) × T (not (eq s.session.state.radius nought)) in
      unless_elim (λ x. T (opens_trial (on_proposal s x).reply) → None (lent_checks s n) × T (not (eq s.session.state.radius nought))) (lent_checks s n) (follows s n (unless checks way)) (λ r w. absurd w)
      (λ clear. unless_elim Opens checks way (λ r w. absurd w) (λ far w. (clear, far.0)))

  -- at e, like the start but for a count that is at the allowance
  module _ (n : ℕ) (opens : T (opens_trial (respond kernel (propose n) start).reply)) (nothing : start.session.state.count ≡ 0) (e : Station) (a : Alike e start)
      (full : e.session.state.count ≡ start.session.settings.allowance) where
    allowed : e.session.settings.allowance ≡ start.session.settings.allowance
    allowed = λ i. (a.same i).session.settings.allowance

    low : leb e.session.state.count e.session.settings.allowance ≡ leb start.session.state.count e.session.settings.allowance
    low =
        le-leb e.session.state.count e.session.settings.allowance (omega (arith, full, allowed))
        ∙ sym (le-leb start.session.state.count e.session.settings.allowance (omega (arith, nothing)))

    clear : None (lent_checks e n)
    clear = subst None (sym (same_checks e start a.as_large low n ∙ ap (λ (x : Station). lent_checks x n) a.same)) (made_so start n opens).0

    far : eq e.session.state.radius nought ≡ false
    far = (λ i. eq (a.same i).session.state.radius nought) ∙ false_is _ (made_so start n opens).1

    refusal : proposal_at kernel e n ≡ refused Hidden
    unfolding proposal
    refusal =
        unless_none (lent_checks e n) _ clear
        ∙ rw (far, eq-eqb e.session.state.count e.session.settings.allowance (full ∙ sym allowed))

    refuses : (respond kernel (propose n) e).reply ≡ refused Hidden
    unfolding respond on_proposal
    refuses = ap (λ (x : Answer Proposal). (on_proposal e x).reply) refusal

    leaves : (respond kernel (propose n) e).after ≡ e
    unfolding respond on_proposal
    leaves = ap (λ (x : Answer Proposal). (on_proposal e x).after) refusal

pub too_hidden : (kernel : Settings → Kernel) → ((t : Settings) (n : ℕ) (radius : Float) (g H : List Float) → Proper n (kernel t n radius g H)) → Too_hidden kernel
too_hidden kernel proper start n nothing opens whole hidden many idle =
    let end = final (respond kernel) start whole in
    let begins : Ready ≡ start.session.state.phase = ready_is start.session.state.phase (not_not (is_ready start.session.state.phase) (made_so kernel proper start start n opens).0.1.1.0) in
    let waits : Waits kernel proper start start = record {
      alike = subst (λ (x : Station). Alike (back start) x) (in_ready start begins) (alike_refl (back start));
      undue = subst (λ (p : Phase). T (not (awaits_derivatives p))) begins tt;
    } in
    let w = stays kernel proper start whole start waits hidden in
    let a : Alike end start = subst (λ (x : Station). Alike x start) (in_ready end (ready_left end.session.state.phase idle w.0.undue)) w.0.alike in
    let full : end.session.state.count ≡ start.session.settings.allowance = omega (arith, w.1, many, nothing) in
    record {
      refuses = refuses kernel proper start n opens nothing end a full;
      leaves = leaves kernel proper start n opens nothing end a full;
      settings = λ i. (a.same i).session.settings;
      phase = λ i. (a.same i).session.state.phase;
      radius = λ i. (a.same i).session.state.radius;
      cost = λ i. (a.same i).session.state.cost;
      point = λ i. (a.same i).lent.point;
      gradient = λ i. (a.same i).lent.gradient;
      hessian = λ i. (a.same i).lent.hessian;
    }
