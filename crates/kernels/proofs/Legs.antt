-- Which leg the step of the textbook's dogleg comes from: one of four for every input, unless the inverse is refused. Assumes nothing.
use mathlib.Core.Path.{◌≡◌, refl, sym, ◌∙◌, ap, subst}
use mathlib.Core.Bool.{Bool, true, false, cond}
use mathlib.Core.List.{List, []}
use mathlib.Core.Logic.{inl, inr}
use Prim.Native.Nat.{ℕ}
use lib.Dec.{T}
use lib.Ieee.{Float, lt, le}
use Rattle.float.specs.Constants.{nought}
use Rattle.vectors.specs.Vector.{norm, weighted}
use Rattle.vectors.specs.Refusal.{Answer, refused, given, then}
use Rattle.kernels.specs.Kernel.{Made, made, handed_out}
use Rattle.kernels.specs.CauchyPoint.{along, cauchy_point}
use Rattle.kernels.specs.Dogleg.{unconstrained, newton, between}
use Rattle.kernels.specs.Textbook.{legs, textbook_step, textbook_dogleg, Leg, as_cauchy, whole, first, second, holds, on, step_on, Comes_from, Told, no_inverse, comes}

-- the leg that the three tests name
abbrev leg_by : (curved inside beyond : Bool) → Leg
leg_by curved inside beyond = cond curved (cond inside whole (cond beyond first second)) as_cauchy

it_holds : (a b d : Bool) → T (holds (leg_by a b d) a b d)
it_holds true true d = tt
it_holds true false true = tt
it_holds true false false = tt
it_holds false b d = tt

no_other : (leg : Leg) (a b d : Bool) → T (holds leg a b d) → leg ≡ leg_by a b d
no_other as_cauchy true b d t = absurd t
no_other as_cauchy false b d t = refl
no_other whole true true d t = refl
no_other whole true false d t = absurd t
no_other whole false b d t = absurd t
no_other first true true d t = absurd t
no_other first true false true t = refl
no_other first true false false t = absurd t
no_other first false b d t = absurd t
no_other second true true d t = absurd t
no_other second true false true t = absurd t
no_other second true false false t = refl
no_other second false b d t = absurd t

module _ (n : ℕ) (radius : Float) (g H : List Float) where
  abbrev curved : Bool
  curved = lt nought (weighted n g H g)

  abbrev pu : List Float
  pu = unconstrained n g H

  abbrev told_by : Bool → Answer (List Float) → Answer Made
  told_by b o = cond b (then (λ pb. handed_out (made 0 (textbook_step n radius pb pu))) o) (cauchy_point n radius g H)

  is_told : textbook_dogleg n radius g H ≡ told_by curved (newton n g H)
  unfolding textbook_dogleg between
  is_told = refl

  module _ (pb : List Float) where
    abbrev inside : Bool
    inside = le (norm pb) radius

    abbrev beyond : Bool
    beyond = le radius (norm pu)

    -- where the leg is as Cauchy's no pb is asked for
    by_tests : (a b d : Bool) → inside ≡ b → beyond ≡ d → told_by a (given pb) ≡ handed_out (made 0 (step_on n radius g H pb (leg_by a b d)))
    unfolding textbook_step legs cauchy_point along
    by_tests true true d e f = rw e
    by_tests true false true e f = rw (e, f)
    by_tests true false false e f = rw (e, f)
    by_tests false b d e f = refl

    abbrev leg : Leg
    leg = leg_by curved inside beyond

    comes_from : textbook_dogleg n radius g H ≡ told_by curved (given pb) → Comes_from n radius g H pb leg
    comes_from e = record { here = it_holds curved inside beyond; alone = λ other t. no_other other curved inside beyond t; by_formula = e ∙ by_tests curved inside beyond refl refl }

  -- the answer on a leg whose condition holds
  pub on_leg : (pb : List Float) (leg : Leg) → newton n g H ≡ given pb → T (on n radius g H pb leg) → textbook_dogleg n radius g H ≡ handed_out (made 0 (step_on n radius g H pb leg))
  on_leg pb leg f t =
      (comes_from pb (is_told ∙ ap (told_by curved) f)).by_formula
      ∙ ap (λ (l : Leg). handed_out (made 0 (step_on n radius g H pb l))) (sym (no_other leg curved (inside pb) (beyond pb) t))

  which : (b : Bool) → curved ≡ b → (o : Answer (List Float)) → newton n g H ≡ o → Told n radius g H
  which false e o f =
      let same : leg [] ≡ as_cauchy = ap (λ (b : Bool). leg_by b (inside []) (beyond [])) e in
      comes [] (leg []) (inl same) (comes_from [] (is_told ∙ ap (λ (b : Bool). told_by b (newton n g H)) e ∙ sym (ap (λ (b : Bool). told_by b (given [])) e)))
  which true e (refused r) f = no_inverse r (subst T (sym e) tt) f (is_told ∙ ap (told_by curved) f ∙ ap (λ (b : Bool). told_by b (refused r)) e)
  which true e (given pb) f = comes pb (leg pb) (inr f) (comes_from pb (is_told ∙ ap (told_by curved) f))

  pub which_leg : Told n radius g H
  which_leg = which curved refl (newton n g H) refl
