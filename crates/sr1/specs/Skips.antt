-- An answer that skips the update of the Hessian, under either edition, and what is promised of a q of zero. Definitions only; that it is so is proofs/Skips.antt.
use Rattle.std.specs.Prelude.{◌≡◌, Ok, Bool, true, false, not, List, [], ◌∷◌, ℕ, Float}
use Rattle.std.specs.Float.Ieee.{eq}
use Rattle.float.specs.Numbers.{◌⊗◌, finite}
use Rattle.float.specs.Constants.{nought}
use Rattle.vectors.specs.Vector.{dot}
use Rattle.vectors.specs.Refusal.{Answer, refused, given, ◌if◌, unless, judged, then, left_in}
use Rattle.vectors.specs.declared.refusal.Refusal.TheVariants.{Range}
use Rattle.offer.specs.State.{Promise, promised}
use Rattle.sr1.specs.Session.{Session, Judgement, fall_ratio, next_radius, residual, updates, settled, answer_checks, judgement_checks, judgement}

-- "z = (G − g) − H·s, q = s·z", of the lists that an answer is lent
abbrev pub q : ℕ → (new_gradient gradient hessian step : List Float) → Float
q n new_gradient gradient hessian step = dot step (residual n new_gradient gradient hessian step)

-- whether an answer updates the Hessian, on what its session was promised
abbrev pub tested : Session → ℕ → (new_gradient gradient hessian step : List Float) → Promise → Bool
tested s n new_gradient gradient hessian step p = updates s.settings p.norm (residual n new_gradient gradient hessian step) (q n new_gradient gradient hessian step)

-- the test fails
abbrev pub Skips : Session → ℕ → (new_gradient gradient hessian step : List Float) → Type 0
Skips s n new_gradient gradient hessian step = (p : Promise) → promised s.state.phase ≡ given p → tested s n new_gradient gradient hessian step p ≡ false

module _ (s : Session) (F : Float) where
  abbrev pub ratio : Promise → Float
  ratio p = fall_ratio s.state.cost F p.value

  abbrev pub radius_after : Promise → Float
  radius_after p = next_radius (ratio p) p.norm s.state.radius

  -- The answer by a promise with the update left out: refusal 8 is the next radius's alone, and the Hessian is the one that was lent.
  abbrev pub left_out : (new_gradient point step trial gradient hessian : List Float) → Promise → Answer Judgement
  left_out new_gradient point step trial gradient hessian p =
      unless (answer_checks F new_gradient step trial gradient hessian)
      (unless ((Range if not (finite (radius_after p))) ∷ []) (given (settled s F (ratio p) (radius_after p) new_gradient point trial gradient hessian)))

  abbrev pub skipping : ℕ → (new_gradient point step trial gradient hessian scratch : List Float) → Answer Judgement
  skipping n new_gradient point step trial gradient hessian scratch =
      unless (judgement_checks s n new_gradient point step trial gradient hessian scratch)
      (then (left_out new_gradient point step trial gradient hessian) (promised s.state.phase))

-- ---- request Seven: s is any session, and the lists are those that its answer is lent

pub record Skip_rule (s : Session) (n : ℕ) (F : Float) (new_gradient point step trial gradient hessian scratch : List Float) : Type 0 where
  -- Where the test fails the answer is that with the update left out, and no entry of the Hessian changes, whether it is refused or not.
  pub skips : Skips s n new_gradient gradient hessian step → judgement s n F new_gradient point step trial gradient hessian scratch ≡ skipping s F n new_gradient point step trial gradient hessian scratch
  pub keeps : Skips s n new_gradient gradient hessian step → left_in (λ (j : Judgement). j.hessian) (judgement s n F new_gradient point step trial gradient hessian scratch) hessian ≡ hessian
  -- Under edition 2 a q of zero is no reason for refusal 8: the next radius is.
  pub never_for_q : s.settings.edition ≡ 2 → eq (q n new_gradient gradient hessian step) nought ≡ true → (p : Promise) → promised s.state.phase ≡ given p
      → judgement s n F new_gradient point step trial gradient hessian scratch ≡ refused Range → finite (radius_after s F p) ≡ false
  -- Under edition 1 it is one: a q of zero is refused by 8, unless a lower refusal is given or factor·‖s‖ is not finite.
  pub divides : s.settings.edition ≡ 1 → eq (q n new_gradient gradient hessian step) nought ≡ true → (p : Promise) → promised s.state.phase ≡ given p
      → finite (s.settings.factor ⊗ p.norm) ≡ true → judged (judgement_checks s n new_gradient point step trial gradient hessian scratch) ≡ Ok tt
      → judged (answer_checks F new_gradient step trial gradient hessian) ≡ Ok tt → judgement s n F new_gradient point step trial gradient hessian scratch ≡ refused Range
