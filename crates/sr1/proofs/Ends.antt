-- How each call ends: its contract, from what its code has found out. Assumes nothing.
use mathlib.Core.Path.{◌≡◌, refl, sym, ap, ◌∙◌}
use mathlib.Core.Bool.{Bool, true, false, cond, not}
use mathlib.Core.List.{List, [], ◌∷◌}
use Prim.Native.Nat.{ℕ, zero, suc, ◌≤◌}
use native.Mathlib.Omega.{arith}
use lib.Dec.{eqb}
use lib.ListN.{length}
use lib.Ieee.{Float, lt}
use lib.Ieee.Bits.{is_true}
use borrow.Author.Tests.{eqb-true}
use Rattle.std.specs.Prelude.{Ok, Err}
use Rattle.float.specs.Numbers.{finite}
use Rattle.float.proofs.Commute.{mul_commutes}
use Rattle.vectors.specs.Vector.{zeros, dot_to, dot, all_finite}
use Rattle.vectors.specs.Refusal.{Answer, refused, given, Check, ◌if◌, unless, then, judged, all_hold, sized, Square}
use Rattle.vectors.specs.declared.refusal.Refusal.{Refusal}
use Rattle.vectors.specs.declared.refusal.Refusal.TheVariants.{Size, Setting, Entry, Range}
use Rattle.vectors.proofs.Sizes.{Each, each_holds, was_right}
use Rattle.kernels.proofs.Kernels.{unless_passed, unless_failed, early, first_passed, was_wrong}
use Rattle.offer.specs.Offer.{all_sized, proposal_checks, Offer, stepping}
use Rattle.offer.specs.State.{result_of, moved, counted, Promise, promised}
use Rattle.offer.specs.Session as any
use Rattle.offer.specs.Calls as offer
use Rattle.offer.specs.Calls.{early_checks, replaced, saying}
use Rattle.offer.specs.declared.state.State.{State}
use Rattle.offer.specs.declared.state.Phase.TheVariants.{Ready}
use Rattle.offer.specs.declared.state.Said.TheVariants.{Done, Accepted, Rejected}
use Rattle.offer.proofs.Checks.{passed_none, then_unless, not_not, is_refused, is_given}
use Rattle.offer.proofs.Lengths.{Lent, lent_true, copied}
use Rattle.offer.proofs.Offers.{offered_elim}
use Rattle.offer.proofs.Sessions as sessions
use Rattle.sr1.specs.Settings.{chosen}
use Rattle.sr1.specs.Session.{Session, kind, sound, turned, Proposal, converged, done, awaiting, proposal, fall_ratio, next_radius, updated, settled, answer_entries, verdict, judge, judgement_checks, judgement}
use Rattle.sr1.specs.Calls.{After, Proposes, Updates, Judges}
use Rattle.sr1.specs.Laws.{lawful}

-- ---- a sound session

pub sound_is : (s : Session) → any.sound kind s ≡ sound s
unfolding sound
sound_is s = refl

-- its count is small
sound_small : (s : Session) → sound s ≡ true → s.state.count ≤ 1000
unfolding sound
sound_small = sessions.sound_small kind lawful

-- ---- the proposal

-- the kernels' p·g is document 01's g·s
dot_to_commutes : (a b : List Float) (k : ℕ) → dot_to a b k ≡ dot_to b a k
unfolding dot_to
dot_to_commutes a b zero = refl
dot_to_commutes a b (suc k) = rw (dot_to_commutes a b k, mul_commutes)

dot_commutes : (a b : List Float) → length a ≡ length b → dot a b ≡ dot b a
unfolding dot
dot_commutes a b e = rw e (dot_to_commutes a b (length b))

-- b is whether the code found that the session is done
module _ (s : Session) (n : ℕ) (point gradient hessian step trial scratch : List Float) (b : Bool) (is-done : b ≡ converged s gradient) where
  abbrev checks : List Check
  checks = proposal_checks (sound s) s.state n point gradient hessian step trial scratch

  abbrev keeping : Answer Offer → Answer Proposal
  keeping = then (λ (o : Offer). given (awaiting s n gradient hessian o))

  -- unless it is done
  abbrev going_on : Bool → Answer Proposal
  going_on t = cond t (given (done s step trial)) (keeping (stepping (chosen s.settings) s.settings.allowance s.state n point gradient hessian))

  abbrev proposes : After → (step' trial' scratch' : List Float) → Type 0
  proposes = Proposes (proposal chosen s n point gradient hessian step trial scratch) s step trial scratch

  on_done : proposal chosen s n point gradient hessian step trial scratch ≡ unless checks (going_on b)
  unfolding proposal
  on_done = rw is-done

  module _ (t : b ≡ true) where
    asked : judged (proposal_checks (any.sound kind s) s.state n point gradient hessian step trial scratch) ≡ judged checks
    asked = rw (sound_is s)

    pub proposes_not : (r : Refusal) → Err r ≡ judged (proposal_checks (any.sound kind s) s.state n point gradient hessian step trial scratch) → proposes (saying s (Err r)) step trial scratch
    proposes_not r e =
        let failed : judged checks ≡ Err r = sym (e ∙ asked) in
        rw (on_done, unless_failed checks (going_on b) r failed)
        (record { says = refl; leaves_step = refl; leaves_trial = refl; leaves_scratch = rw (early checks r (refl, (refl, (refl, (refl, tt)))) failed) })

    pub proposes_done : Ok tt ≡ judged (proposal_checks (any.sound kind s) s.state n point gradient hessian step trial scratch) → (scratch' : List Float) → scratch' ≡ zeros (length scratch)
        → proposes (saying s (Ok Done)) step trial scratch'
    proposes_done e scratch' z = rw (on_done, unless_passed checks (going_on b) (sym (e ∙ asked)), t) (record { says = refl; leaves_step = refl; leaves_trial = refl; leaves_scratch = z })

  -- as any session does
  module _ (t : b ≡ false) (after : After) (step' trial' scratch' : List Float) (long : length step' ≡ length step) where
    follows : proposal chosen s n point gradient hessian step trial scratch ≡ keeping (sessions.offered kind lawful s n point gradient hessian step trial scratch)
    unfolding sound
    follows =
        on_done ∙ rw t
        (sym (ap keeping (sessions.by_kernel kind lawful s n point gradient hessian step trial scratch)
        ∙ then_unless (λ (o : Offer). given (awaiting s n gradient hessian o)) checks (stepping (chosen s.settings) s.settings.allowance s.state n point gradient hessian)))

    abbrev meets : Answer Offer → Type 0
    meets a = offer.Proposes (sessions.keeping kind lawful s n point gradient hessian step trial scratch a) s step trial scratch after step' trial' scratch' → Proposes (keeping a) s step trial scratch after step' trial' scratch'

    refuses : (r : Refusal) → meets (refused r)
    refuses r o = record { says = o.says; leaves_step = o.leaves_step; leaves_trial = o.leaves_trial; leaves_scratch = o.leaves_scratch }

    hands_out : length step ≡ length gradient → (a : Answer Offer) → meets a
    unfolding awaiting
    hands_out l (refused r) o = refuses r o
    hands_out l (given x) o =
        let commutes = dot_commutes x.step gradient (ap length (sym o.leaves_step) ∙ long ∙ l) in
        record { says = o.says ∙ rw commutes; leaves_step = o.leaves_step; leaves_trial = o.leaves_trial; leaves_scratch = o.leaves_scratch }

    pub proposes_so : offer.Proposes (sessions.proposed kind lawful s n point gradient hessian step trial scratch) s step trial scratch after step' trial' scratch' → proposes after step' trial' scratch'
    proposes_so o =
        rw follows
        (offered_elim (any.asking kind s) n point gradient hessian step trial scratch meets refuses (λ l. hands_out (l.step ∙ sym l.gradient))
        (rw (sessions.follows kind lawful s n point gradient hessian step trial scratch) at o))

-- ---- the answer with a cost and a gradient

module _ (s : Session) (n : ℕ) (F : Float) (new_gradient point step trial gradient hessian scratch : List Float) where
  abbrev answer_checked : List Check
  answer_checked = judgement_checks s n new_gradient point step trial gradient hessian scratch

  abbrev entries : List Bool
  entries = answer_entries F new_gradient step trial gradient hessian

  abbrev pub answered : Bool
  answered = all_hold entries

  module _ (passed : judged answer_checked ≡ Ok tt) where
    abbrev sizes_asked : List Bool
    sizes_asked = all_sized n point gradient hessian step trial scratch ∷ sized n new_gradient ∷ []

    sizes_right : Each sizes_asked
    sizes_right = each_holds sizes_asked (first_passed (all_hold sizes_asked) Size ((Setting if not (sound s)) ∷ []) passed)

    -- what `counted` asks
    pub count_ready : s.state.count ≤ 1000
    count_ready = sound_small s (is_true _ (not_not (sound s) (passed_none answer_checked passed).1.0))

    pub answer_lent : Lent n (length point) (length gradient) (length hessian) (length step) (length trial) (length scratch)
    answer_lent = lent_true n (length point) (length gradient) (length hessian) (length step) (length trial) (length scratch) sizes_right.0

    answer_new : length new_gradient ≡ n
    answer_new = eqb-true (length new_gradient) n sizes_right.1.0

    -- what `renew` asks
    pub renew_ready : answered ≡ true
        → (n ≤ length scratch) × Square n (length hessian) × (length new_gradient ≡ n) × (length gradient ≡ n) × (length step ≡ n) × (all_finite hessian ≡ true)
    renew_ready a =
        (omega (arith, answer_lent.scratch), answer_lent.square, answer_new, answer_lent.gradient, answer_lent.step, (each_holds entries a).1.1.1.0)

    takes_trial : replaced trial point ≡ trial
    takes_trial = copied trial point (answer_lent.point ∙ sym answer_lent.trial)

    takes_gradient : replaced new_gradient gradient ≡ new_gradient
    takes_gradient = copied new_gradient gradient (answer_lent.gradient ∙ sym answer_new)

  module _ (p : Promise) where
    abbrev judges_by : After → (point' gradient' hessian' scratch' : List Float) → Type 0
    judges_by = Judges (judge s n F new_gradient point step trial gradient hessian p) s point gradient hessian scratch

    pub judge_unanswered : answered ≡ false → judges_by (saying s (Err Entry)) point gradient hessian scratch
    unfolding judge
    judge_unanswered a = rw a (record { says = refl; leaves_point = refl; leaves_gradient = refl; leaves_hessian = refl; leaves_scratch = refl })

    abbrev ratio : Float
    ratio = fall_ratio s.state.cost F p.value

    abbrev next_hessian : List Float
    next_hessian = updated n s.settings p.norm new_gradient gradient hessian step

    -- the code's ratio and next radius
    module _ (a : answered ≡ true) (x next : Float) (is-ratio : x ≡ ratio) (is-next : next ≡ next_radius x p.norm s.state.radius) where
      on_answer : judge s n F new_gradient point step trial gradient hessian p ≡ verdict s F x next new_gradient point trial gradient next_hessian
      unfolding judge
      on_answer = rw (a, is-next, is-ratio)

      pub judge_far : finite next ≡ false → (scratch' : List Float) → scratch' ≡ zeros (length scratch) → judges_by (saying s (Err Range)) point gradient hessian scratch'
      judge_far b scratch' z = rw (on_answer, b) (record { says = refl; leaves_point = refl; leaves_gradient = refl; leaves_hessian = refl; leaves_scratch = z })

      -- and its new Hessian
      module _ (b : finite next ≡ true) (hessian' scratch' : List Float) (z : scratch' ≡ zeros (length scratch)) where
        pub judge_not_finite : (r : Refusal) → Updates next_hessian (Err r) hessian hessian' → judges_by (saying s (Err r)) point gradient hessian' scratch'
        judge_not_finite r u =
            let w = was_wrong Range r (all_finite next_hessian) u.says in
            rw (w.1, on_answer, b, w.0) (record { says = refl; leaves_point = refl; leaves_gradient = refl; leaves_hessian = u.leaves ∙ rw w.0; leaves_scratch = z })

        module _ (u : Updates next_hessian (Ok tt) hessian hessian') (count : ℕ) (is-count : count ≡ counted F s.state.count) (state : State) where
          good : all_finite next_hessian ≡ true
          good = was_right Range (all_finite next_hessian) u.says

          settles : judge s n F new_gradient point step trial gradient hessian p ≡ given (settled s F x next new_gradient point trial gradient next_hessian)
          settles = on_answer ∙ rw (b, good)

          pub judge_accepts : lt s.settings.eta x ≡ true → (passed : judged answer_checked ≡ Ok tt) (point' gradient' : List Float) → point' ≡ replaced trial point → gradient' ≡ replaced new_gradient gradient
              → state ≡ moved s.state next F Ready count → judges_by (saying (turned s state) (Ok (Accepted x))) point' gradient' hessian' scratch'
          unfolding settled
          judge_accepts t passed point' gradient' c d f =
              rw (f, is-count, settles, t)
              (record { says = refl; leaves_point = c ∙ takes_trial passed; leaves_gradient = d ∙ takes_gradient passed; leaves_hessian = u.leaves ∙ rw good; leaves_scratch = z })

          pub judge_rejects : lt s.settings.eta x ≡ false → state ≡ moved s.state next s.state.cost Ready count → judges_by (saying (turned s state) (Ok (Rejected x))) point gradient hessian' scratch'
          unfolding settled
          judge_rejects t f = rw (f, is-count, settles, t) (record { says = refl; leaves_point = refl; leaves_gradient = refl; leaves_hessian = u.leaves ∙ rw good; leaves_scratch = z })

  -- b, z and h are what the code found of the lengths of what any session is lent, of all lengths, and of the session
  module _ (b z h : Bool) (is-lent : b ≡ all_sized n point gradient hessian step trial scratch) (is-sized : z ≡ all_hold (b ∷ eqb (length new_gradient) n ∷ [])) (is-sound : h ≡ sound s) where
    abbrev found : List Check
    found = early_checks z h true true

    same_checks : judged found ≡ judged answer_checked
    same_checks = rw (is-sized, is-lent, is-sound)

    pub judges_not : (r : Refusal) → Err r ≡ judged found
        → Judges (judgement s n F new_gradient point step trial gradient hessian scratch) s point gradient hessian scratch (saying s (Err r)) point gradient hessian scratch
    unfolding judgement
    judges_not r e =
        let failed : judged answer_checked ≡ Err r = sym (e ∙ same_checks) in
        rw (unless_failed answer_checked (then (judge s n F new_gradient point step trial gradient hessian) (promised s.state.phase)) r failed)
        (record { says = refl; leaves_point = refl; leaves_gradient = refl; leaves_hessian = refl; leaves_scratch = rw (early answer_checked r (refl, (refl, tt)) failed) })

    module _ (e : Ok tt ≡ judged found) where
      pub judge_ready : judged answer_checked ≡ Ok tt
      judge_ready = sym (e ∙ same_checks)

      on_promise : judgement s n F new_gradient point step trial gradient hessian scratch ≡ then (judge s n F new_gradient point step trial gradient hessian) (promised s.state.phase)
      unfolding judgement
      on_promise = unless_passed answer_checked _ judge_ready

      pub judges_out_of_turn : (r : Refusal) → Err r ≡ result_of (promised s.state.phase)
          → Judges (judgement s n F new_gradient point step trial gradient hessian scratch) s point gradient hessian scratch (saying s (Err r)) point gradient hessian scratch
      judges_out_of_turn r t =
          rw (on_promise, is_refused (promised s.state.phase) t, sessions.out_of_turn s.state.phase t)
          (record { says = refl; leaves_point = refl; leaves_gradient = refl; leaves_hessian = refl; leaves_scratch = refl })

      pub judges_in_turn : (p : Promise) (r : After) (point' gradient' hessian' scratch' : List Float) → Ok p ≡ result_of (promised s.state.phase)
          → Judges (judge s n F new_gradient point step trial gradient hessian p) s point gradient hessian scratch r point' gradient' hessian' scratch'
          → Judges (judgement s n F new_gradient point step trial gradient hessian scratch) s point gradient hessian scratch r point' gradient' hessian' scratch'
      judges_in_turn p r point' gradient' hessian' scratch' t j = rw (on_promise, is_given (promised s.state.phase) t) j
