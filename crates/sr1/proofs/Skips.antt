-- The skip rule (specs/Skips.antt): what a skipped update comes to is proved once for both editions, by the test's name. Under edition 2 a q of zero skips. Assumes nothing.
use mathlib.Core.Path.{◌≡◌, refl, sym, ap, ◌∙◌}
use mathlib.Core.Bool.{Bool, true, false, not, cond, ◌&&◌, true≢false}
use mathlib.Core.List.{List, [], ◌∷◌}
use Prim.Native.Nat.{ℕ}
use native.Mathlib.Omega.{arith}
use lib.Dec.{eqb}
use lib.Ieee.{Float, le, eq, ne}
use lib.Ieee.Bits.{is_true}
use borrow.Author.Tests.{eq-eqb}
use Rattle.float.specs.Numbers.{◌⊗◌, finite, magnitude}
use Rattle.float.specs.Constants.{nought}
use Rattle.vectors.specs.Vector.{all_finite}
use Rattle.vectors.specs.Refusal.{Answer, refused, given, Check, ◌if◌, unless, then, all_hold, number, left_in}
use Rattle.vectors.specs.declared.refusal.Refusal.{Refusal}
use Rattle.vectors.specs.declared.refusal.Refusal.TheVariants.{Entry, Range}
use Rattle.vectors.proofs.Sizes.{each_holds}
use Rattle.kernels.proofs.Kernels.{first_passed}
use Rattle.offer.specs.State.{Promise, promised}
use Rattle.offer.proofs.Checks.{None, unless_same, unless_elim, then_elim, not_not, clash}
use Rattle.sr1.specs.Session.{Session, Judgement, book_rule, updated_by, updated, settled, answer_entries, answer_checks, verdict, judge, judgement_checks, judgement}
use Rattle.sr1.specs.Skips.{q, tested, Skips, ratio, radius_after, left_out, skipping, Skip_rule}
use Rattle.sr1.proofs.Hessians.{and_false, by_other}
use Rattle.sr1.proofs.Zeros.{first_refused}

-- what follows an answer is one where it is for all that may be given
then_same : {A B : Type 0} (f g : A → Answer B) (a : Answer A) → ((x : A) → a ≡ given x → f x ≡ g x) → then f a ≡ then g a
then_same f g (refused r) h = refl
then_same f g (given x) h = h x refl

and_true : (b c : Bool) → c ≡ true → (b && c) ≡ b
and_true true c e = e
and_true false c e = refl

-- edition 2 leaves the Hessian where q is zero, whatever the bound
zero_stays : (factor norm z_norm x : Float) → eq x nought ≡ true → book_rule factor norm z_norm x ≡ false
unfolding book_rule ne
zero_stays factor norm z_norm x e = rw e (and_false (le (factor ⊗ norm ⊗ z_norm) (magnitude x)))

-- a refusal that is none of a list's stands behind it
abbrev Other : Refusal → List Check → Type 0
Other r [] = Unit {0}
Other r (c ∷ cs) = (eqb (number c.refusal) (number r) ≡ false) × Other r cs

not_by : {A : Type 0} (r : Refusal) (cs : List Check) (a : Answer A) → Other r cs → unless cs a ≡ refused r → a ≡ refused r
not_by r [] a o e = e
not_by r (c ∷ cs) a o e = go c.applies c.refusal o.0 e (not_by r cs a o.1)
  where
    go : (b : Bool) (x : Refusal) → eqb (number x) (number r) ≡ false → cond b (refused x) (unless cs a) ≡ refused r → (unless cs a ≡ refused r → a ≡ refused r) → a ≡ refused r
    go true x other e f = let same : x ≡ r = cc in absurd (true≢false (sym (eq-eqb (number x) (number r) (ap number same)) ∙ other))
    go false x other e f = f e

alone : {A : Type 0} (b : Bool) (a : A) → unless ((Range if not b) ∷ []) (given a) ≡ refused Range → b ≡ false
alone true a e = absurd (clash (sym e))
alone false a e = refl

-- ---- a skipped update

-- the Hessian stays
pub stays : (n : ℕ) (s : Session) (new_gradient gradient hessian step : List Float) (p : Promise) → tested s n new_gradient gradient hessian step p ≡ false
    → updated n s.settings p.norm new_gradient gradient hessian step ≡ hessian
unfolding updated updated_by
stays n s new_gradient gradient hessian step p e = rw e

module _ (s : Session) (n : ℕ) (F : Float) (new_gradient point step trial gradient hessian scratch : List Float) where
  abbrev entries : List Bool
  entries = answer_entries F new_gradient step trial gradient hessian

  -- where the checks have passed the Hessian that was lent is finite
  by_radius : (p : Promise) → None (answer_checks F new_gradient step trial gradient hessian)
      → verdict s F (ratio s F p) (radius_after s F p) new_gradient point trial gradient hessian
      ≡ unless ((Range if not (finite (radius_after s F p))) ∷ []) (given (settled s F (ratio s F p) (radius_after s F p) new_gradient point trial gradient hessian))
  by_radius p none =
      let whole = (each_holds entries (is_true _ (not_not (all_hold entries) none.0))).1.1.1.0 in
      ap (λ b. cond (not b) (refused Range) (given (settled s F (ratio s F p) (radius_after s F p) new_gradient point trial gradient hessian))) (and_true (finite (radius_after s F p)) (all_finite hessian) whole)

  on_promise : (p : Promise) → tested s n new_gradient gradient hessian step p ≡ false → judge s n F new_gradient point step trial gradient hessian p ≡ left_out s F new_gradient point step trial gradient hessian p
  unfolding judge
  on_promise p e =
      ap (λ (h : List Float). unless (answer_checks F new_gradient step trial gradient hessian) (verdict s F (ratio s F p) (radius_after s F p) new_gradient point trial gradient h)) (stays n s new_gradient gradient hessian step p e)
      ∙ unless_same (answer_checks F new_gradient step trial gradient hessian) _ _ (by_radius p)

  abbrev fails : Type 0
  fails = Skips s n new_gradient gradient hessian step

  -- The whole answer: checks, ratio, radius, count and verdict are as ever.
  skips : fails → judgement s n F new_gradient point step trial gradient hessian scratch ≡ skipping s F n new_gradient point step trial gradient hessian scratch
  unfolding judgement
  skips no_test =
      ap (unless (judgement_checks s n new_gradient point step trial gradient hessian scratch))
      (then_same (judge s n F new_gradient point step trial gradient hessian) (left_out s F new_gradient point step trial gradient hessian) (promised s.state.phase) (λ p is. on_promise p (no_test p is)))

  -- no entry of the Hessian changes
  abbrev Keeps : Answer Judgement → Type 0
  Keeps a = left_in (λ (j : Judgement). j.hessian) a hessian ≡ hessian

  keeps : fails → Keeps (judgement s n F new_gradient point step trial gradient hessian scratch)
  unfolding settled
  keeps no_test =
      rw (skips no_test)
      (unless_elim Keeps (judgement_checks s n new_gradient point step trial gradient hessian scratch) _ (λ r. refl)
      (λ none. then_elim Keeps (left_out s F new_gradient point step trial gradient hessian) (promised s.state.phase) (λ r. refl)
      (λ p is. unless_elim Keeps (answer_checks F new_gradient step trial gradient hessian) _ (λ r. refl)
      (λ none. unless_elim Keeps ((Range if not (finite (radius_after s F p))) ∷ []) _ (λ r. refl) (λ none. refl)))))

  -- ---- edition 2, "q is not 0"

  module _ (second : s.settings.edition ≡ 2) (zero : eq (q n new_gradient gradient hessian step) nought ≡ true) where
    zero_skips : fails
    zero_skips p is = by_other s.settings p.norm _ _ (λ first. omega (arith, second, first)) _ refl ∙ zero_stays s.settings.factor p.norm _ _ zero

    -- Refused by 8 it is for the next radius, and never for q.
    never_for_q : (p : Promise) → promised s.state.phase ≡ given p → judgement s n F new_gradient point step trial gradient hessian scratch ≡ refused Range → finite (radius_after s F p) ≡ false
    never_for_q p is e =
        let first = not_by Range (judgement_checks s n new_gradient point step trial gradient hessian scratch) _ (refl, (refl, tt)) (sym (skips zero_skips) ∙ e) in
        let entries-read = not_by Range (answer_checks F new_gradient step trial gradient hessian) _ (refl, tt) (ap (then (left_out s F new_gradient point step trial gradient hessian)) (sym is) ∙ first) in
        alone (finite (radius_after s F p)) _ entries-read

  pub skip_rule : Skip_rule s n F new_gradient point step trial gradient hessian scratch
  skip_rule = record {
    skips = skips;
    keeps = keeps;
    never_for_q = never_for_q;
    divides = λ first zero p is small passed read. first_refused s n F new_gradient point step trial gradient hessian scratch p zero is passed (first_passed (all_hold entries) Entry [] read) first small;
  }
