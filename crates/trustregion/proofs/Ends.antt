-- How each call ends: its contract, from what its code has found out. Assumes nothing.
use mathlib.Core.Path.{◌≡◌, refl, sym, ◌∙◌}
use mathlib.Core.Bool.{Bool, true, false, ◌&&◌}
use mathlib.Core.List.{List, [], ◌∷◌}
use Prim.Native.Nat.{ℕ, ◌*◌, ◌≤◌}
use lib.Dec.{eqb}
use lib.ListN.{length}
use lib.Ieee.{Float, lt}
use lib.Ieee.Bits.{is_true}
use borrow.Author.Tests.{eqb-true}
use Rattle.std.specs.Prelude.{Ok, Err}
use Rattle.float.specs.Numbers.{finite}
use Rattle.vectors.specs.Vector.{all_finite}
use Rattle.vectors.specs.Refusal.{given, then, judged, all_hold, size, sized}
use Rattle.vectors.specs.declared.refusal.Refusal.{Refusal}
use Rattle.vectors.specs.declared.refusal.Refusal.TheVariants.{Entry, Range}
use Rattle.vectors.proofs.Sizes.{each_holds, vectors_true}
use Rattle.kernels.proofs.Kernels.{unless_passed, unless_failed}
use Rattle.offer.specs.Offer.{cost_taken}
use Rattle.offer.specs.State.{result_of, moved, counted, awaits_derivatives, Promise, promised}
use Rattle.offer.specs.Session as any
use Rattle.offer.specs.Calls.{early_checks, replaced, saying}
use Rattle.offer.specs.declared.state.State.{State}
use Rattle.offer.specs.declared.state.Phase.TheVariants.{Ready, AwaitingDerivatives}
use Rattle.offer.specs.declared.state.Said.TheVariants.{Accepted, Rejected, Taken}
use Rattle.offer.proofs.Checks.{passed_none, not_not, is_refused, is_given}
use Rattle.offer.proofs.Lengths.{copied}
use Rattle.offer.proofs.Sessions as sessions
use Rattle.trustregion.specs.Session.{Session, kind, sound, turned, rho, radius_by, settled, verdict, judge, judgement_checks, judgement, renewal_sized, renewal_checks, renewed_by, renewal}
use Rattle.trustregion.specs.Calls.{After, Judges, Renews}
use Rattle.trustregion.specs.Laws.{lawful}

-- ---- a sound session

-- what it was asked
abbrev pub sound_tests : Session → List Bool
sound_tests = sessions.sound_tests kind

pub sound_is : (s : Session) → any.sound kind s ≡ sound s
unfolding sound
sound_is s = refl

-- its count is small
pub sound_small : (s : Session) → sound s ≡ true → s.state.count ≤ 1000
unfolding sound
sound_small = sessions.sound_small kind lawful

-- ---- the answer with a cost

module _ (s : Session) (F : Float) (point trial : List Float) (p : Promise) where
  abbrev answered : Bool
  answered = all_finite trial && cost_taken F

  abbrev judges_by : After → (point' : List Float) → Type 0
  judges_by = Judges (judge s F point trial p) s point

  pub judge_unanswered : answered ≡ false → judges_by (saying s (Err Entry)) point
  unfolding judge
  judge_unanswered a = rw a (record { says = refl; leaves_point = refl })

  -- the code's ratio and next radius
  module _ (a : answered ≡ true) (x next : Float) (is-ratio : x ≡ rho s.state.cost F p.value) (is-next : next ≡ radius_by s x p.norm) where
    on_answer : judge s F point trial p ≡ verdict s F x next point trial
    unfolding judge
    on_answer = rw (a, is-next, is-ratio)

    pub judge_far : finite next ≡ false → judges_by (saying s (Err Range)) point
    judge_far b = rw (on_answer, b) (record { says = refl; leaves_point = refl })

    module _ (b : finite next ≡ true) (count : ℕ) (is-count : count ≡ counted F s.state.count) (state : State) where
      settles : judge s F point trial p ≡ given (settled s F x next point trial)
      settles = on_answer ∙ rw b

      pub judge_accepts : lt s.settings.eta x ≡ true → length point ≡ length trial → (point' : List Float) → point' ≡ replaced trial point
          → state ≡ moved s.state next F AwaitingDerivatives count → judges_by (saying (turned s state) (Ok (Accepted x))) point'
      unfolding settled
      judge_accepts t l point' c e = rw (e, is-count, settles, t) (record { says = refl; leaves_point = c ∙ copied trial point l })

      pub judge_rejects : lt s.settings.eta x ≡ false → state ≡ moved s.state next s.state.cost Ready count → judges_by (saying (turned s state) (Ok (Rejected x))) point
      unfolding settled
      judge_rejects t e = rw (e, is-count, settles, t) (record { says = refl; leaves_point = refl })

-- b and h are what the code found of the sizes and of the session
module _ (s : Session) (n : ℕ) (F : Float) (point trial : List Float) (b h : Bool) (is-sized : b ≡ all_hold (size n ∷ sized n point ∷ sized n trial ∷ [])) (is-sound : h ≡ sound s) where
  same_checks : judged (early_checks b h true true) ≡ judged (judgement_checks s n point trial)
  same_checks = rw (is-sized, is-sound)

  pub judges_not : (r : Refusal) → Err r ≡ judged (early_checks b h true true) → Judges (judgement s n F point trial) s point (saying s (Err r)) point
  unfolding judgement
  judges_not r e = rw (unless_failed (judgement_checks s n point trial) (then (judge s F point trial) (promised s.state.phase)) r (sym (e ∙ same_checks))) (record { says = refl; leaves_point = refl })

  module _ (e : Ok tt ≡ judged (early_checks b h true true)) where
    pub judge_ready : (length point ≡ length trial) × (s.state.count ≤ 1000)
    judge_ready =
        let none = passed_none (judgement_checks s n point trial) (sym (e ∙ same_checks)) in
        let l = vectors_true n (length point) (length trial) (is_true _ (not_not (all_hold (size n ∷ sized n point ∷ sized n trial ∷ [])) none.0)) in
        (l.0 ∙ sym l.1, sound_small s (is_true _ (not_not (sound s) none.1.0)))

    on_promise : judgement s n F point trial ≡ then (judge s F point trial) (promised s.state.phase)
    unfolding judgement
    on_promise = unless_passed (judgement_checks s n point trial) _ (sym (e ∙ same_checks))

    pub judges_out_of_turn : (r : Refusal) → Err r ≡ result_of (promised s.state.phase) → Judges (judgement s n F point trial) s point (saying s (Err r)) point
    judges_out_of_turn r t = rw (on_promise, is_refused (promised s.state.phase) t) (record { says = refl; leaves_point = refl })

    pub judges_in_turn : (p : Promise) (r : After) (point' : List Float) → Ok p ≡ result_of (promised s.state.phase) → Judges (judge s F point trial p) s point r point'
        → Judges (judgement s n F point trial) s point r point'
    judges_in_turn p r point' t j = rw (on_promise, is_given (promised s.state.phase) t) j

-- ---- the answer with new derivatives

renewal_lengths : (n G H g h : ℕ) → all_hold (size n ∷ eqb G n ∷ eqb H (n * n) ∷ eqb g n ∷ eqb h (n * n) ∷ []) ≡ true → (g ≡ G) × (h ≡ H)
renewal_lengths n G H g h e =
    let new = (each_holds (size n ∷ eqb G n ∷ eqb H (n * n) ∷ eqb g n ∷ eqb h (n * n) ∷ []) e).1 in
    let old = new.1.1 in
    (eqb-true g n old.0 ∙ sym (eqb-true G n new.0), eqb-true h (n * n) old.1.0 ∙ sym (eqb-true H (n * n) new.1.0))

-- b, h, t and d are what the code found of the sizes, the session, its phase and the derivatives
module _ (s : Session) (n : ℕ) (new_gradient new_hessian gradient hessian : List Float) (b h t d : Bool) (is-sized : b ≡ renewal_sized n new_gradient new_hessian gradient hessian)
    (is-sound : h ≡ sound s) (is-turn : t ≡ awaits_derivatives s.state.phase) (is-finite : d ≡ (all_finite new_gradient && all_finite new_hessian)) where
  renewal_asked : judged (early_checks b h t d) ≡ judged (renewal_checks s n new_gradient new_hessian gradient hessian)
  renewal_asked = rw (is-sized, is-sound, is-turn, is-finite)

  pub renews_not : (r : Refusal) → Err r ≡ judged (early_checks b h t d) → Renews (renewal s n new_gradient new_hessian gradient hessian) s gradient hessian (saying s (Err r)) gradient hessian
  unfolding renewal
  renews_not r e =
      rw (unless_failed (renewal_checks s n new_gradient new_hessian gradient hessian) (given (renewed_by s new_gradient new_hessian)) r (sym (e ∙ renewal_asked)))
      (record { says = refl; leaves_gradient = refl; leaves_hessian = refl })

  pub renews : Ok tt ≡ judged (early_checks b h t d) → (gradient' hessian' : List Float) → gradient' ≡ replaced new_gradient gradient → hessian' ≡ replaced new_hessian hessian
      → (state : State) → state ≡ moved s.state s.state.radius s.state.cost Ready 0 → Renews (renewal s n new_gradient new_hessian gradient hessian) s gradient hessian (saying (turned s state) (Ok Taken)) gradient' hessian'
  unfolding renewal
  renews e gradient' hessian' g k state is =
      let passed = sym (e ∙ renewal_asked) in
      let sizes = is_true _ (not_not (renewal_sized n new_gradient new_hessian gradient hessian) (passed_none (renewal_checks s n new_gradient new_hessian gradient hessian) passed).0) in
      let l = renewal_lengths n (length new_gradient) (length new_hessian) (length gradient) (length hessian) sizes in
      rw (is, unless_passed (renewal_checks s n new_gradient new_hessian gradient hessian) (given (renewed_by s new_gradient new_hessian)) passed)
      (record { says = refl; leaves_gradient = g ∙ copied new_gradient gradient l.0; leaves_hessian = k ∙ copied new_hessian hessian l.1 })
