-- Laws of Dogleg. Assumes nothing.
use mathlib.Core.Path.{◌≡◌, refl, sym, ◌∙◌, ap, subst}
use mathlib.Core.Bool.{Bool, true, false, cond}
use mathlib.Core.List.{List}
use Prim.Native.Nat.{ℕ}
use lib.ListN.{length}
use lib.Ieee.{Float, lt, le, neg}
use Rattle.std.specs.Prelude.{Result, Err}
use Rattle.float.specs.Numbers.{◌⊕◌, ◌⊖◌, ◌⊗◌, square}
use Rattle.float.specs.Constants.{one}
use Rattle.vectors.specs.Vector.{dot, norm, weighted, plus, minus, scale}
use Rattle.vectors.specs.Slots.{slot, Puts}
use Rattle.kernels.specs.Workspace.{map, zip}
use Rattle.vectors.specs.Refusal.{Answer, refused, given, then}
use Rattle.kernels.specs.Kernel.{Made, made, handed_out, Proper, Reached}
use Rattle.kernels.specs.Inverse.{Rows, eliminated, inverse_times}
use Rattle.kernels.specs.Dogleg.{tau, bent, measured, outside, towards, unconstrained, dogleg_step, newton, between, dogleg, Measures_in}
use Rattle.kernels.specs.declared.dogleg.Measures.{Measures}
use Rattle.kernels.specs.declared.kernel.Stepped.{Stepped}
use Rattle.vectors.specs.declared.refusal.Refusal.{Refusal}
use Rattle.vectors.proofs.Vectors.{length_plus, length_scale}
use Rattle.kernels.proofs.Ops.{map_times, zip_minus, zip_plus_times}
use Rattle.kernels.proofs.Ends.{eliminated_late}
use Rattle.kernels.proofs.Kernels.{then_proper, handed_proper, reached_same, reached_none}

-- ---- the answers that it may give

pub chosen_long : (n : ℕ) (b : Bool) (x y : List Float) → length x ≡ n → length y ≡ n → length (cond b x y) ≡ n
chosen_long n true x y e f = e
chosen_long n false x y e f = f

bent_long : (n : ℕ) (tau : Float) (pu v : List Float) → length (bent n tau pu v) ≡ n
unfolding bent
bent_long n tau pu v = chosen_long n (lt tau one) (scale n pu tau) (plus n pu (scale n v (tau ⊖ one))) (length_scale n pu tau) (length_plus n pu (scale n v (tau ⊖ one)))

outside_long : (n : ℕ) (radius : Float) (pu v : List Float) → length (outside n radius pu v) ≡ n
unfolding outside
outside_long n radius pu v = bent_long n (measured radius pu v tau) pu v

step_long : (n : ℕ) (radius : Float) (pb pu : List Float) → length pb ≡ n → length (dogleg_step n radius pb pu) ≡ n
unfolding dogleg_step
step_long n radius pb pu e = chosen_long n (le (norm pb) radius) pb (outside n radius pu (minus n pb pu)) e (outside_long n radius pu (minus n pb pu))

-- a kernel between pb and pu, whatever its step
module _ (step : ℕ → Float → (pb pu : List Float) → List Float) (n : ℕ) (radius : Float) (g H : List Float) where
  abbrev handed : List Float → Answer Made
  handed pb = handed_out (made 0 (step n radius pb (unconstrained n g H)))

  by_rows : (p : Rows → List Float) (o : Answer Rows) → then handed (then (λ R. given (p R)) o) ≡ then (λ R. handed (p R)) o
  by_rows p (refused r) = refl
  by_rows p (given R) = refl

  pub between_proper : ((pb pu : List Float) → length pb ≡ n → length (step n radius pb pu) ≡ n) → Proper n (between step n radius g H)
  unfolding between newton
  between_proper long =
      let pb : Rows → List Float = λ R. scale n (inverse_times n R g) (neg one) in
      subst (Proper n) (sym (by_rows pb (eliminated n H)))
      (then_proper n (λ R. handed (pb R)) (eliminated n H) (eliminated_late n H)
      (λ R. handed_proper n (made 0 (step n radius (pb R) (unconstrained n g H))) (long (pb R) (unconstrained n g H) (length_scale n (inverse_times n R g) (neg one)))))

  -- `lay`, where the inverse is refused, and where the code has pb
  pub between_none : (r : Refusal) (w w' : List Float) → refused r ≡ newton n g H → Reached (between step n radius g H) (Err r) w w'
  unfolding between
  between_none r w w' e = reached_none (then handed (newton n g H)) r w w' (ap (then handed) e)

  pub between_made : (pb w w₁ w₂ : List Float) (r : Result Stepped Refusal) → given pb ≡ newton n g H → slot w₁ n 0 ≡ step n radius pb (unconstrained n g H) → length w₁ ≡ length w
      → Reached (handed_out (made 0 (slot w₁ n 0))) r w₁ w₂ → Reached (between step n radius g H) r w w₂
  unfolding between
  between_made pb w w₁ w₂ r e a l p =
      reached_same (handed_out (made 0 (slot w₁ n 0))) (then handed (newton n g H)) r w₁ w w₂ (ap (λ (v : List Float). handed_out (made 0 v)) a ∙ ap (then handed) e) l p

pub dogleg_proper : (n : ℕ) (radius : Float) (g H : List Float) → Proper n (dogleg n radius g H)
unfolding dogleg
dogleg_proper n radius g H = between_proper dogleg_step n radius g H (step_long n radius)

-- ---- each function, from what it read and wrote

module _ (n : ℕ) (tau : Float) (w w' : List Float) where
  pub bent_first : lt tau one ≡ true → Puts w n 0 (map n (λ x. x ⊗ tau) (slot w n 1)) w' → slot w' n 0 ≡ bent n tau (slot w n 1) (slot w n 2)
  unfolding bent
  bent_first t p = rw t (p 0 ∙ map_times n (slot w n 1) tau)

  pub bent_second : lt tau one ≡ false → Puts w n 0 (zip n (λ x y. x ⊕ y ⊗ (tau ⊖ one)) (slot w n 1) (slot w n 2)) w' → slot w' n 0 ≡ bent n tau (slot w n 1) (slot w n 2)
  unfolding bent
  bent_second t p = rw t (p 0 ∙ zip_plus_times n (slot w n 1) (slot w n 2) (tau ⊖ one))

-- Newton's point, by the elimination
module _ (n : ℕ) (g H : List Float) where
  pub no_newton : (r : Refusal) → refused r ≡ eliminated n H → refused r ≡ newton n g H
  unfolding newton
  no_newton r e = rw (← e)

  pub newtons : (R : Rows) (w w₁ w₂ : List Float) → given R ≡ eliminated n H → Puts w n 0 (inverse_times n R g) w₁ → Puts w₁ n 0 (map n (λ x. x ⊗ neg one) (slot w₁ n 0)) w₂
      → given (slot w₂ n 0) ≡ newton n g H
  unfolding newton
  newtons R w w₁ w₂ e p q =
      let turned : slot w₂ n 0 ≡ scale n (inverse_times n R g) (neg one) = q 0 ∙ map_times n (slot w₁ n 0) (neg one) ∙ rw (p 0) in
      rw (← e, turned)

pub measured_here : (n : ℕ) (w w' : List Float) (m : Measures) → Puts w n 2 (zip n (λ x y. x ⊖ y) (slot w n 0) (slot w n 1)) w'
    → m.c ≡ dot (slot w' n 1) (slot w' n 2) → m.k ≡ dot (slot w' n 2) (slot w' n 2) → m.u ≡ dot (slot w' n 1) (slot w' n 1) → Measures_in n w m w'
unfolding measured
measured_here n w w' m p c k u =
    let v : slot w' n 2 ≡ minus n (slot w n 0) (slot w n 1) = p 2 ∙ zip_minus n (slot w n 0) (slot w n 1) in
    record { pu_stays = p 1; across = v; measure = λ radius f. rw (c, k, u, p 1, v) }

-- the step, where ‖pb‖ is x
module _ (n : ℕ) (radius x : Float) (g H w : List Float) (e : x ≡ norm (slot w n 0)) where
  pub inside : le x radius ≡ true → slot w n 0 ≡ dogleg_step n radius (slot w n 0) (unconstrained n g H)
  unfolding dogleg_step
  inside t = rw (← e, t)

  pub outsides : (curvature t : Float) (w₁ w₂ w₃ : List Float) (m : Measures) → le x radius ≡ false
      → curvature ≡ weighted n g H g → Puts w n 1 (towards n g curvature) w₁ → Measures_in n w₁ m w₂
      → t ≡ tau m.c m.k m.u (square radius) → slot w₃ n 0 ≡ bent n t (slot w₂ n 1) (slot w₂ n 2)
      → slot w₃ n 0 ≡ dogleg_step n radius (slot w n 0) (unconstrained n g H)
  unfolding dogleg_step outside unconstrained
  outsides curvature t w₁ w₂ w₃ m far h p q et b = rw (← e, far) (b ∙ rw (et, q.measure radius tau, q.pu_stays, q.across, p 0, p 1, h))

-- `lay`
module _ (n : ℕ) (radius : Float) (g H : List Float) where
  pub dogleg_none : (r : Refusal) (w w' : List Float) → refused r ≡ newton n g H → Reached (dogleg n radius g H) (Err r) w w'
  unfolding dogleg
  dogleg_none = between_none dogleg_step n radius g H

  pub dogleg_made : (pb w w₁ w₂ : List Float) (r : Result Stepped Refusal) → given pb ≡ newton n g H → slot w₁ n 0 ≡ dogleg_step n radius pb (unconstrained n g H) → length w₁ ≡ length w
      → Reached (handed_out (made 0 (slot w₁ n 0))) r w₁ w₂ → Reached (dogleg n radius g H) r w w₂
  unfolding dogleg
  dogleg_made = between_made dogleg_step n radius g H
