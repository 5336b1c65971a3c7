-- Laws of the textbook's dogleg. Assumes nothing.
use mathlib.Core.Path.{◌≡◌, sym, ◌∙◌, ap, subst}
use mathlib.Core.Bool.{Bool, true, false, cond}
use mathlib.Core.List.{List}
use Prim.Native.Nat.{ℕ}
use lib.ListN.{length}
use lib.Ieee.{Float, lt, le}
use Rattle.std.specs.Prelude.{Result}
use Rattle.float.specs.Numbers.{◌⊕◌, ◌⊗◌, ◌⊘◌, square}
use Rattle.float.specs.Constants.{nought}
use Rattle.vectors.specs.Vector.{norm, weighted, minus, scale}
use Rattle.vectors.specs.Slots.{slot, Puts}
use Rattle.kernels.specs.Workspace.{map, zip}
use Rattle.kernels.specs.Kernel.{Proper, Reached}
use Rattle.kernels.specs.CauchyPoint.{cauchy_point}
use Rattle.kernels.specs.Dogleg.{measured, towards, unconstrained, between, Measures_in}
use Rattle.kernels.specs.Textbook.{first_leg, along, second_leg, legs, textbook_step, textbook_dogleg}
use Rattle.kernels.specs.declared.dogleg.Measures.{Measures}
use Rattle.kernels.specs.declared.kernel.Stepped.{Stepped}
use Rattle.vectors.specs.declared.refusal.Refusal.{Refusal}
use Rattle.vectors.proofs.Vectors.{length_plus, length_scale}
use Rattle.kernels.proofs.Ops.{map_times, zip_plus_times}
use Rattle.kernels.proofs.CauchyPoints.{cauchy_proper}
use Rattle.kernels.proofs.Doglegs.{chosen_long, between_proper}

-- ---- the answers that it may give

textbook_long : (n : ℕ) (radius : Float) (pb pu : List Float) → length pb ≡ n → length (textbook_step n radius pb pu) ≡ n
unfolding textbook_step legs first_leg second_leg
textbook_long n radius pb pu e =
    let v = minus n pb pu in
    chosen_long n (le (norm pb) radius) pb (legs n radius pb pu) e
    (chosen_long n (le radius (norm pu)) (first_leg n radius pu) (second_leg n radius pu v) (length_scale n pu (radius ⊘ norm pu)) (length_plus n pu (scale n v (measured radius pu v along))))

-- past its first test
legs_proper : (n : ℕ) (radius : Float) (g H : List Float) → Proper n (between textbook_step n radius g H)
legs_proper n radius g H = between_proper textbook_step n radius g H (textbook_long n radius)

pub textbook_proper : (n : ℕ) (radius : Float) (g H : List Float) → Proper n (textbook_dogleg n radius g H)
unfolding textbook_dogleg
textbook_proper n radius g H = pick (lt nought (weighted n g H g)) where
  pick : (b : Bool) → Proper n (cond b (between textbook_step n radius g H) (cauchy_point n radius g H))
  pick true = legs_proper n radius g H
  pick false = cauchy_proper n radius g H

-- ---- each function, from what it read and wrote

-- `outside`: pu in slot 1, and ‖pu‖ is y
module _ (n : ℕ) (radius y curvature : Float) (g w w₁ w₂ : List Float) (p : Puts w n 1 (towards n g curvature) w₁) (f : y ≡ norm (slot w₁ n 1)) where
  abbrev all : List Float
  all = legs n radius (slot w n 0) (towards n g curvature)

  is_y : y ≡ norm (towards n g curvature)
  is_y = f ∙ rw (p 1)

  pub on_first : le radius y ≡ true → Puts w₁ n 0 (map n (λ x. x ⊗ (radius ⊘ y)) (slot w₁ n 1)) w₂ → slot w₂ n 0 ≡ all
  unfolding legs first_leg
  on_first h q = rw (← is_y, h) (q 0 ∙ map_times n (slot w₁ n 1) (radius ⊘ y) ∙ rw (p 1))

  pub on_second : (w₃ : List Float) (m : Measures) (a : Float) → le radius y ≡ false → Measures_in n w₁ m w₂ → a ≡ along m.c m.k m.u (square radius)
      → Puts w₂ n 0 (zip n (λ x y. x ⊕ y ⊗ a) (slot w₂ n 1) (slot w₂ n 2)) w₃ → slot w₃ n 0 ≡ all
  unfolding legs second_leg
  on_second w₃ m a h q ea r = rw (← is_y, h) (r 0 ∙ zip_plus_times n (slot w₂ n 1) (slot w₂ n 2) a ∙ rw (ea, q.measure radius along, q.pu_stays, q.across, p 0, p 1))

-- `lay`, by the curvature
module _ (n : ℕ) (radius curvature : Float) (g H w w' : List Float) (r : Result Stepped Refusal) (e : curvature ≡ weighted n g H g) where
  by_curvature : (b : Bool) → lt nought curvature ≡ b → Reached (cond b (between textbook_step n radius g H) (cauchy_point n radius g H)) r w w' → Reached (textbook_dogleg n radius g H) r w w'
  unfolding textbook_dogleg
  by_curvature b t h = subst (λ (x : Bool). Reached (cond x (between textbook_step n radius g H) (cauchy_point n radius g H)) r w w') (sym t ∙ ap (lt nought) e) h

  pub as_cauchys : lt nought curvature ≡ false → Reached (cauchy_point n radius g H) r w w' → Reached (textbook_dogleg n radius g H) r w w'
  as_cauchys t h = by_curvature false t h

  pub by_legs : lt nought curvature ≡ true → Reached (between textbook_step n radius g H) r w w' → Reached (textbook_dogleg n radius g H) r w w'
  by_legs t h = by_curvature true t h

-- the step, where ‖pb‖ is x
module _ (n : ℕ) (radius x : Float) (g H pb : List Float) (e : x ≡ norm pb) where
  pub inside : le x radius ≡ true → pb ≡ textbook_step n radius pb (unconstrained n g H)
  unfolding textbook_step
  inside t = rw (← e, t)

  pub outsides : (curvature : Float) (v : List Float) → le x radius ≡ false → curvature ≡ weighted n g H g → v ≡ legs n radius pb (towards n g curvature) → v ≡ textbook_step n radius pb (unconstrained n g H)
  unfolding textbook_step unconstrained
  outsides curvature v t h f = rw (← e, t) (f ∙ ap (λ (z : Float). legs n radius pb (towards n g z)) h)
