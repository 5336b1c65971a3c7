-- Laws of Steihaug's roots and passes. Assumes nothing.
use mathlib.Core.Path.{◌≡◌, refl, ◌∙◌, ap, subst}
use mathlib.Core.Bool.{Bool, true, false, cond, ◌||◌}
use mathlib.Core.List.{List, [], ◌∷◌, ◌++◌, map}
use Prim.Native.Nat.{ℕ, zero, suc, ◌+◌, ◌*◌, ◌-◌, ◌<◌, ◌≤◌}
use native.Mathlib.Numerals.{add-one}
use native.Mathlib.Omega.{arith}
use lib.ListN.{length, take}
use lib.Seq.{take_at, length-take-le}
use lib.Ieee.{Float, lt, le, neg, is_nan}
use Rattle.std.specs.Prelude.{None, Some, Result}
use Rattle.float.specs.Numbers.{◌⊕◌, ◌⊗◌, ◌⊘◌}
use Rattle.float.specs.Constants.{nought, one}
use Rattle.float.proofs.Order.{lt_self}
use Rattle.vectors.specs.Slots.{slot, Puts}
use Rattle.vectors.specs.Vector.{dot, norm, times, scale, zeros}
use Rattle.kernels.specs.Workspace.{zip}
use Rattle.vectors.specs.Refusal.{Answer, refused, given, then, untouched_by}
use Rattle.kernels.specs.Kernel.{Made, made, handed_out, Proper, Reached}
use Rattle.kernels.specs.Steihaug.{roots_at, listed, ahead, model, valued, lesser, any_nan, by_model, larger, largest_from, forward, State, Pass, stops, goes_on, after, stops_at, curved, crossing, onward, straight, pass, run, steihaug, start, state_in, Keeps}
use Rattle.kernels.specs.declared.kernel.Stepped.{Stepped}
use Rattle.vectors.specs.declared.refusal.Refusal.{Refusal}
use Rattle.vectors.specs.declared.refusal.Refusal.TheVariants.{Root}
use Rattle.kernels.specs.declared.steihaug.Roots.{Roots}
use Rattle.kernels.specs.declared.steihaug.Valued.{Valued}
use Rattle.vectors.proofs.Vectors.{length_tab, length_plus}
use Rattle.kernels.proofs.Ops.{zip_plus_times, zip_turned_plus_times}
use Rattle.kernels.proofs.Kernels.{Late, then_handed, reached_same}

-- ---- by model

pub valued_here : (w w' g H : List Float) (n : ℕ) (tau m : Float) → Puts w n 6 (zip n (λ x y. x ⊕ y ⊗ tau) (slot w n 0) (slot w n 2)) w'
    → m ≡ model n g H (slot w' n 6) → ◌≡◌ {A = Valued} (record { tau = tau; model = m }) (valued n g H (slot w n 0) (slot w n 2) tau)
unfolding valued
valued_here w w' g H n tau m put e = rw (e, put 6, zip_plus_times n (slot w n 0) (slot w n 2) tau)

-- the second again in the third's place changes nothing
module _ (a b : Valued) where
  again : lesser (lesser a b) b ≡ lesser a b
  again = pick (lt b.model a.model) refl where
    pick : (l : Bool) → lt b.model a.model ≡ l → lesser (cond l b a) b ≡ cond l b a
    pick true e = rw (lt_self b.model)
    pick false e = rw e

  twice : (x y : Bool) → (x || (y || (y || false))) ≡ (x || (y || false))
  twice true y = refl
  twice false true = refl
  twice false false = refl

  second_again : by_model (a ∷ b ∷ b ∷ []) ≡ by_model (a ∷ b ∷ [])
  unfolding by_model
  second_again =
      ap (λ (x : Bool). cond x (refused Root) (given (lesser (lesser a b) b).tau)) (twice (is_nan a.model) (is_nan b.model))
      ∙ ap (λ (v : Valued). cond (any_nan (a ∷ b ∷ [])) (refused Root) (given v.tau)) again

-- over p and d, which the models leave as they are
module _ (n : ℕ) (g H w w₁ w₂ : List Float) (ts : Roots) (a b : Valued) (o : Answer Float) where
  abbrev models : List Float → Float → Valued
  models w = valued n g H (slot w n 0) (slot w n 2)

  abbrev chosen : Answer Float
  chosen = by_model (map (models w) (listed ts))

  module _ (e : a ≡ models w ts.first) (k : Keeps n w w₁) (f : b ≡ models w₁ ts.second) (l : Keeps n w₁ w₂) where
    second_here : b ≡ models w ts.second
    second_here = let i = k.0 in let j = k.1 in cc

    pub of_two : ts.third ≡ None → o ≡ by_model (a ∷ b ∷ b ∷ []) → (o ≡ chosen) × Keeps n w w₂
    of_two h i = (i ∙ second_again a b ∙ rw (h, e, second_here), (l.0 ∙ k.0, l.1 ∙ k.1))

    pub of_three : (w₃ : List Float) (z : Float) (c : Valued) → c ≡ models w₂ z → Keeps n w₂ w₃ → ts.third ≡ Some z → o ≡ by_model (a ∷ b ∷ c ∷ [])
        → (o ≡ chosen) × Keeps n w w₃
    of_three w₃ z c i m h j =
        let third-here : c ≡ models w z = let p = l.0 ∙ k.0 in let d = l.1 ∙ k.1 in cc in
        (j ∙ rw (h, e, second_here, third-here), (m.0 ∙ l.0 ∙ k.0, m.1 ∙ l.1 ∙ k.1))

-- ---- what a write leaves in its slot

module _ (w w' : List Float) (n k x y : ℕ) where
  pub put_ahead : (t : Float) → Puts w n k (zip n (λ u v. u ⊕ v ⊗ t) (slot w n x) (slot w n y)) w' → Puts w n k (ahead n (slot w n x) (slot w n y) t) w'
  put_ahead t p = subst (λ (v : List Float). Puts w n k v w') (zip_plus_times n (slot w n x) (slot w n y) t) p

  pub put_turned : (t : Float) → Puts w n k (zip n (λ u v. u ⊗ neg one ⊕ v ⊗ t) (slot w n x) (slot w n y)) w' → Puts w n k (ahead n (scale n (slot w n x) (neg one)) (slot w n y) t) w'
  put_turned t p = subst (λ (v : List Float). Puts w n k v w') (zip_turned_plus_times n (slot w n x) (slot w n y) t) p

-- ---- the ends of a pass

module _ (n : ℕ) (radius : Float) (w ts : List Float) (tau : Answer Float) (o : Pass) (e : ts ≡ roots_at radius (slot w n 0) (slot w n 2)) where
  pub by_model_here : (g H w₁ : List Float) → (tau ≡ by_model (map (valued n g H (slot w n 0) (slot w n 2)) ts)) × Keeps n w w₁
      → o ≡ stops_at n (slot w₁ n 0) (slot w₁ n 2) tau → o ≡ curved n radius g H (slot w n 0) (slot w n 2)
  unfolding curved
  by_model_here g H w₁ f h = h ∙ rw (f.1.0, f.1.1, f.0, e)

  pub forward_here : tau ≡ forward ts → o ≡ stops_at n (slot w n 0) (slot w n 2) tau → o ≡ crossing n radius (slot w n 0) (slot w n 2)
  unfolding crossing
  forward_here f h = h ∙ rw (f, e)

pub onward_here : (w w₁ w₂ : List Float) (n : ℕ) (rtr ss : Float) → ss ≡ dot (slot w n 1) (slot w n 1)
    → Puts w n 2 (ahead n (scale n (slot w n 1) (neg one)) (slot w n 2) (ss ⊘ rtr)) w₁ → Puts w₁ n 0 (slot w₁ n 6) w₂
    → goes_on (state_in w₂ n ss) ≡ goes_on (onward n (state_in w n rtr) (slot w n 6) (slot w n 1))
unfolding onward
onward_here w w₁ w₂ n rtr ss e a b = simp (b, a, e)

-- q in slot 6
module _ (w w₁ : List Float) (n : ℕ) (radius small rtr alpha nq : Float) (a : Puts w n 6 (ahead n (slot w n 0) (slot w n 2) alpha) w₁) (en : nq ≡ norm (slot w₁ n 6)) where
  abbrev all : Pass
  all = straight n radius small (state_in w n rtr) (slot w n 3) alpha

  is_q : nq ≡ norm (ahead n (slot w n 0) (slot w n 2) alpha)
  is_q = en ∙ ap norm (a 6)

  pub outside : (o : Pass) → le radius nq ≡ true → o ≡ crossing n radius (slot w₁ n 0) (slot w₁ n 2) → o ≡ all
  unfolding straight
  outside o t f = f ∙ rw (a 0, a 2, ← is_q, t)

  -- s in the place of r
  module _ (w₂ : List Float) (ns : Float) (t : le radius nq ≡ false) (b : Puts w₁ n 1 (ahead n (slot w₁ n 1) (slot w₁ n 3) alpha) w₂) (em : ns ≡ norm (slot w₂ n 1)) where
    is_s : ns ≡ norm (ahead n (slot w n 1) (slot w n 3) alpha)
    is_s = em ∙ ap norm (b 1 ∙ rw (a 1, a 3))

    pub small_enough : lt ns small ≡ true → stops (given (slot w₂ n 6)) ≡ all
    unfolding straight
    small_enough u = rw (b 6, a 6, ← is_q, t, ← is_s, u)

    pub not_yet : (o : Pass) → lt ns small ≡ false → o ≡ goes_on (onward n (state_in w₂ n rtr) (slot w₂ n 6) (slot w₂ n 1)) → o ≡ all
    unfolding straight onward
    not_yet o u f = f ∙ rw (← is_q, t, ← is_s, u) (simp (b, a))

-- H·d in slot 3
module _ (w w₁ g H : List Float) (n : ℕ) (radius small rtr dhd : Float) (o : Pass) (a : Puts w n 3 (times n H (slot w n 2)) w₁) (e : dhd ≡ dot (slot w₁ n 2) (slot w₁ n 3)) where
  is_dhd : dhd ≡ dot (slot w n 2) (times n H (slot w n 2))
  is_dhd = let x = a 2 in let y = a 3 in cc

  pub no_curvature : le dhd nought ≡ true → o ≡ curved n radius g H (slot w₁ n 0) (slot w₁ n 2) → o ≡ pass n radius small g H (state_in w n rtr)
  unfolding pass
  no_curvature t f =
      let p : slot w₁ n 0 ≡ slot w n 0 = a 0 in
      let d : slot w₁ n 2 ≡ slot w n 2 = a 2 in
      f ∙ ap (λ (v : List Float). curved n radius g H v (slot w₁ n 2)) p ∙ ap (curved n radius g H (slot w n 0)) d ∙ rw (← is_dhd, t)

  pub curvature : le dhd nought ≡ false → o ≡ straight n radius small (state_in w₁ n rtr) (slot w₁ n 3) (rtr ⊘ dhd) → o ≡ pass n radius small g H (state_in w n rtr)
  unfolding pass
  curvature t f = f ∙ rw (a 0, a 1, a 2, a 3, ← is_dhd, t)

-- ---- all passes

module _ (n : ℕ) (radius small : Float) (g H : List Float) (limit k : ℕ) (st : State) (all : Answer Made) (inv : run n radius small g H (limit - k) k st ≡ all) where
  -- one less is left
  pub turned : (o : Pass) → k < limit → o ≡ pass n radius small g H st → after o (k + 1) (run n radius small g H (limit - (k + 1)) (k + 1)) ≡ all
  unfolding run
  turned o l e =
      let more : limit - k ≡ suc (limit - (k + 1)) = omega arith in
      rw e (rw (add-one k) (rw (more, add-one k) at inv))

  -- none is left
  pub done : (v : List Float) → limit ≤ k → v ≡ st.p → given (made k v) ≡ all
  unfolding run
  done v l e =
      let none : limit - k ≡ 0 = omega arith in
      ap (λ (x : List Float). given (made k x)) e ∙ (rw none at inv)

-- ---- the kernel

-- the first n numbers of w became +0
module _ (w v rest : List Float) (n : ℕ) (l : n ≤ length w) (e : v ≡ zeros (length (take n w))) where
  is_zeros : v ≡ zeros n
  is_zeros = e ∙ ap zeros (length-take-le n w l)

  clear_slot : slot (v ++ rest) n 0 ≡ zeros n
  unfolding slot zeros
  clear_slot =
      let z : 0 * n ≡ 0 = omega arith in
      rw z (take_at v rest n (ap length is_zeros ∙ length_tab n (λ i. nought)) ∙ is_zeros)

  pub start_here : (g w₁ w₂ : List Float) (rtr : Float) → Puts (v ++ rest) n 1 g w₁ → Puts w₁ n 2 (scale n g (neg one)) w₂ → rtr ≡ dot g g
      → state_in w₂ n rtr ≡ start n g
  unfolding start
  start_here g w₁ w₂ rtr a b f = rw (b 0, b 1, b 2, a 0, a 1, f, clear_slot)

-- ---- the answers that it may give: a step of n numbers, or refusal 7 or 8

either : {A : Type 0} (P : A → Type 0) (b : Bool) {x y : A} → P x → P y → P (cond b x y)
either P true p q = p
either P false p q = q

by_model_late : (vs : List Valued) → Late (by_model vs)
unfolding by_model
by_model_late [] = refl
by_model_late (v ∷ vs) = either Late (any_nan (v ∷ vs)) refl tt

larger_late : (held : Answer Float) (t : Float) → Late held → Late (larger held t)
larger_late (refused r) t l = either Late (le nought t) tt l
larger_late (given x) t l = either Late (lt x t) tt tt

largest_late : (held : Answer Float) (ts : List Float) → Late held → Late (largest_from held ts)
largest_late held [] l = l
largest_late held (t ∷ ts) l = largest_late (larger held t) ts (larger_late held t l)

forward_late : (ts : List Float) → Late (forward ts)
unfolding forward
forward_late ts = largest_late (refused Root) ts refl

-- a pass that stops has n numbers to show, or such a refusal; one that goes on has n
abbrev Fine : ℕ → Pass → Type 0
Fine n (stops (refused r)) = untouched_by r ≡ false
Fine n (stops (given v)) = length v ≡ n
Fine n (goes_on st) = length st.p ≡ n

stops_fine : (n : ℕ) (p d : List Float) (tau : Answer Float) → Late tau → Fine n (stops_at n p d tau)
stops_fine n p d (refused r) l = l
stops_fine n p d (given t) l = length_plus n p (scale n d t)

module _ (n : ℕ) (radius small : Float) (g H : List Float) where
  straight_fine : (st : State) (Hd : List Float) (alpha : Float) → Fine n (straight n radius small st Hd alpha)
  unfolding straight crossing onward
  straight_fine st Hd alpha =
      let long = length_plus n st.p (scale n st.d alpha) in
      either (Fine n) (le radius (norm (ahead n st.p st.d alpha))) (stops_fine n st.p st.d (forward (roots_at radius st.p st.d)) (forward_late (roots_at radius st.p st.d)))
      (either (Fine n) (lt (norm (ahead n st.r Hd alpha)) small) long long)

  pass_fine : (st : State) → Fine n (pass n radius small g H st)
  unfolding pass curved
  pass_fine st =
      let Hd = times n H st.d in
      let models = map (valued n g H st.p st.d) (roots_at radius st.p st.d) in
      either (Fine n) (le (dot st.d Hd) nought) (stops_fine n st.p st.d (by_model models) (by_model_late models)) (straight_fine st Hd (st.rtr ⊘ dot st.d Hd))

  after_proper : (o : Pass) (k : ℕ) (more : State → Answer Made) → Fine n o → ((st : State) → length st.p ≡ n → Proper n (more st)) → Proper n (after o k more)
  after_proper (stops (refused r)) k more f h = f
  after_proper (stops (given v)) k more f h = f
  after_proper (goes_on st) k more f h = h st f

  run_proper : (left k : ℕ) (st : State) → length st.p ≡ n → Proper n (run n radius small g H left k st)
  unfolding run
  run_proper zero k st l = l
  run_proper (suc left) k st l = after_proper (pass n radius small g H st) (suc k) (run n radius small g H left (suc k)) (pass_fine st) (run_proper left (suc k))

pub steihaug_proper : (epsilon : Float) (limit n : ℕ) (radius : Float) (g H : List Float) → Proper n (steihaug epsilon limit n radius g H)
unfolding steihaug start zeros
steihaug_proper epsilon limit n radius g H =
    let all = run n radius (epsilon ⊗ norm g) g H limit 0 (start n g) in
    let long = length_tab n (λ i. nought) in
    then_handed n (cond (lt (norm g) epsilon) (given (made 0 (zeros n))) all)
    (either (Proper n) (lt (norm g) epsilon) long (run_proper n radius (epsilon ⊗ norm g) g H limit 0 (start n g) long))

-- the point of slot 6, moved to slot 0 and settled there
pub moved_laid : (n passes : ℕ) (w w₁ w₂ : List Float) (r : Result Stepped Refusal) → Puts w n 0 (slot w n 6) w₁ → length w₁ ≡ length w
    → Reached (handed_out (made passes (slot w₁ n 0))) r w₁ w₂ → Reached (handed_out (made passes (slot w n 6))) r w w₂
moved_laid n passes w w₁ w₂ r p l e =
    reached_same (handed_out (made passes (slot w₁ n 0))) (handed_out (made passes (slot w n 6))) r w₁ w w₂ (ap (λ (v : List Float). handed_out (made passes v)) (p 0)) l e

-- ---- the kernel, where w holds the start

module _ (epsilon : Float) (limit n : ℕ) (radius : Float) (g H w : List Float) (norm-g rtr : Float) (e : norm-g ≡ norm g) (s : state_in w n rtr ≡ start n g) where
  abbrev whole : Answer Made
  whole = steihaug epsilon limit n radius g H

  pub at_once : (w₀ : List Float) → length w ≡ length w₀ → (r : Result Stepped Refusal) (w' : List Float) → lt norm-g epsilon ≡ true → Reached (handed_out (made 0 (slot w n 0))) r w w' → Reached whole r w₀ w'
  unfolding steihaug start
  at_once w₀ l r w' t h =
      reached_same (handed_out (made 0 (slot w n 0))) whole r w w₀ w'
      (rw (← e, t) (ap (λ (st : State). handed_out (made 0 st.p)) s)) l h

  module _ (o : Answer Made) (t : lt norm-g epsilon ≡ false) (f : o ≡ run n radius (epsilon ⊗ norm-g) g H limit 0 (state_in w n rtr)) where
    pub is_whole : then handed_out o ≡ whole
    unfolding steihaug
    is_whole = rw (← e, t, ← s) (ap (then handed_out) f)

    pub in_passes : (w₀ w₁ w' : List Float) (r : Result Stepped Refusal) → length w ≡ length w₀ → length w₁ ≡ length w → Reached (then handed_out o) r w₁ w' → Reached whole r w₀ w'
    in_passes w₀ w₁ w' r l m h = reached_same (then handed_out o) whole r w₁ w₀ w' is_whole (m ∙ l) h
