-- Laws of the largest magnitude of a list: it fits and has no minus, no entry's magnitude is above it, it is one of them, +0 is that of zeros
-- only, and what a NaN or an infinity makes of it. Assumes nothing.
use mathlib.Core.Path.{◌≡◌, refl, sym, ap, ◌∙◌, subst}
use mathlib.Core.Logic.{◌⊎◌, inl, inr}
use mathlib.Core.Bool.{Bool, true, false, ◌||◌, cond, true≢false}
use mathlib.Core.List.{List}
use Prim.Native.Nat.{ℕ, zero, suc, ◌<◌}
use native.Mathlib.Nat.{le_refl, le_trans, le-suc, le_of_suc-le-suc, eq-or-lt_of_le, not-suc-le-zero}
use lib.Dec.{T}
use lib.ListN.{length}
use lib.Ieee.{Float, nan, inf, fin, binary64, lt, le, eq, is_nan, fits, of_bits}
use lib.Ieee.Fits.{cond-fits}
use lib.Ieee.Bits.{is_true, of_bits-fits}
use Rattle.float.specs.Numbers.{finite, magnitude, larger}
use Rattle.float.specs.Constants.{nought}
use Rattle.float.proofs.Nan.{real}
use Rattle.float.proofs.Order.{sign, le_self, lt→le, le_of_not_lt, le_le_trans, le_real}
use Rattle.float.proofs.Patterns.{magnitude_fits, magnitude_sign, magnitude_zero}
use Rattle.vectors.specs.Vector.{at, largest_to, largest}

-- ---- the larger of two

record Larger (x y z : Float) : Type 0 where
  first : T (real x)
  second : T (real y)
  over_first : T (le x z)
  over_second : T (le y z)

among : (x y : Float) → T (real x) → T (real (cond (lt y x) x y)) → Larger x y (cond (lt y x) x y)
among x y X r = go (lt y x) (λ t. t) (λ t. t) r
  where
    go : (b : Bool) → (T b → T (lt y x)) → (T (lt y x) → T b) → T (real (cond b x y)) → Larger x y (cond b x y)
    go true t u r = let l = lt→le y x (t tt) in record { first = X; second = (le_real y x l).0; over_first = le_self x X; over_second = l }
    go false t u r = record { first = X; second = r; over_first = le_of_not_lt y x r X (λ l. u l); over_second = le_self y r }

larger_law : (x y : Float) → T (real (larger x y)) → Larger x y (larger x y)
unfolding larger is_nan
larger_law nan y r = absurd r
larger_law (inf s) y r = among (inf s) y tt r
larger_law (fin s m e) y r = among (fin s m e) y tt r

-- ---- the largest of all

module _ (v : List Float) where
  pub top_sign : (k : ℕ) → sign (largest_to v k) ≡ false
  unfolding largest_to larger
  top_sign zero = unfold of_bits in refl
  top_sign (suc k) = go (is_nan (magnitude (at v k)) || lt (largest_to v k) (magnitude (at v k))) (top_sign k)
    where
      go : (b : Bool) → sign (largest_to v k) ≡ false → sign (cond b (magnitude (at v k)) (largest_to v k)) ≡ false
      go true h = magnitude_sign (at v k)
      go false h = h

  pub top_fits : ((i : ℕ) → T (fits binary64 (at v i))) → (k : ℕ) → T (fits binary64 (largest_to v k))
  unfolding largest_to larger
  top_fits f zero = of_bits-fits binary64 0
  top_fits f (suc k) = cond-fits binary64 (is_nan (magnitude (at v k)) || lt (largest_to v k) (magnitude (at v k))) (magnitude (at v k)) (largest_to v k) (magnitude_fits (at v k) (f k)) (top_fits f k)

  top_over : (k : ℕ) → T (real (largest_to v k)) → (i : ℕ) → i < k → T (le (magnitude (at v i)) (largest_to v k))
  unfolding largest_to
  top_over zero r i h = absurd (not-suc-le-zero h)
  top_over (suc k) r i h =
      let l = larger_law (magnitude (at v k)) (largest_to v k) r in
      elim (eq-or-lt_of_le (le_of_suc-le-suc h)) [
        | inl e ↦ subst (λ (j : ℕ). T (le (magnitude (at v j)) (larger (magnitude (at v k)) (largest_to v k)))) (sym e) l.over_first
        | inr g ↦ le_le_trans (magnitude (at v i)) (largest_to v k) (larger (magnitude (at v k)) (largest_to v k)) (top_over k l.second i g) l.over_second
      ]

pub largest_sign : (v : List Float) → sign (largest v) ≡ false
unfolding largest
largest_sign v = top_sign v (length v)

pub largest_fits : (v : List Float) → ((i : ℕ) → T (fits binary64 (at v i))) → T (fits binary64 (largest v))
unfolding largest
largest_fits v f = top_fits v f (length v)

pub largest_over : (v : List Float) → T (real (largest v)) → (i : ℕ) → i < length v → T (le (magnitude (at v i)) (largest v))
unfolding largest
largest_over v r = top_over v (length v) r

-- ---- a NaN, and otherwise an infinity

larger_nan : (x : Float) → larger x nan ≡ nan
unfolding larger is_nan lt
larger_nan nan = refl
larger_nan (inf s) = refl
larger_nan (fin s m e) = refl

top_nan : (a : List Float) (k i : ℕ) → i < k → at a i ≡ nan → largest_to a k ≡ nan
unfolding largest_to
top_nan a zero i l h = absurd (not-suc-le-zero l)
top_nan a (suc k) i l h = elim (eq-or-lt_of_le (le_of_suc-le-suc l)) [
  | inl e ↦ ap (λ (z : Float). larger (magnitude z) (largest_to a k)) (ap (at a) (sym e) ∙ h) ∙ unfold larger magnitude is_nan in refl
  | inr g ↦ ap (larger (magnitude (at a k))) (top_nan a k i g h) ∙ larger_nan (magnitude (at a k))
]

pub largest_nan : (v : List Float) (i : ℕ) → i < length v → at v i ≡ nan → largest v ≡ nan
unfolding largest
largest_nan v i l h = top_nan v (length v) i l h

inf_larger : (y : Float) → T (real y) → sign y ≡ false → larger (inf false) y ≡ inf false
unfolding larger is_nan lt
inf_larger nan r h = absurd r
inf_larger (inf true) r h = absurd (true≢false h)
inf_larger (inf false) r h = refl
inf_larger (fin s m e) r h = refl

larger_inf : (x : Float) → T (real x) → sign x ≡ false → larger x (inf false) ≡ inf false
unfolding larger is_nan lt
larger_inf nan r h = absurd r
larger_inf (inf true) r h = absurd (true≢false h)
larger_inf (inf false) r h = refl
larger_inf (fin s m e) r h = refl

magnitude_inf : (s : Bool) → magnitude (inf s) ≡ inf false
unfolding magnitude
magnitude_inf s = refl

magnitude_real : (x : Float) → T (real x) → T (real (magnitude x))
unfolding magnitude is_nan
magnitude_real nan r = r
magnitude_real (inf s) r = tt
magnitude_real (fin s m e) r = tt

larger_real : (x y : Float) → T (real x) → T (real y) → T (real (larger x y))
unfolding larger
larger_real x y r q = go (is_nan x || lt y x)
  where
    go : (b : Bool) → T (real (cond b x y))
    go true = r
    go false = q

top_real : (a : List Float) (k : ℕ) → ((i : ℕ) → i < k → T (real (at a i))) → T (real (largest_to a k))
unfolding largest_to
top_real a zero h = unfold is_nan of_bits in tt
top_real a (suc k) h =
    larger_real (magnitude (at a k)) (largest_to a k) (magnitude_real (at a k) (h k (le_refl (suc k)))) (top_real a k (λ i l. h i (le_trans l (le-suc k))))

top_inf : (a : List Float) (k : ℕ) → ((i : ℕ) → i < k → T (real (at a i))) → (i : ℕ) (s : Bool) → i < k → at a i ≡ inf s → largest_to a k ≡ inf false
unfolding largest_to
top_inf a zero r i s l h = absurd (not-suc-le-zero l)
top_inf a (suc k) r i s l h =
    let rest : (i : ℕ) → i < k → T (real (at a i)) = λ i l. r i (le_trans l (le-suc k)) in
    elim (eq-or-lt_of_le (le_of_suc-le-suc l)) [
      | inl e ↦ ap (λ (z : Float). larger (magnitude z) (largest_to a k)) (ap (at a) (sym e) ∙ h) ∙ ap (λ (z : Float). larger z (largest_to a k)) (magnitude_inf s) ∙ inf_larger (largest_to a k) (top_real a k rest) (top_sign a k)
      | inr g ↦ ap (larger (magnitude (at a k))) (top_inf a k rest i s g h) ∙ larger_inf (magnitude (at a k)) (magnitude_real (at a k) (r k (le_refl (suc k)))) (magnitude_sign (at a k))
    ]

pub largest_inf : (v : List Float) → ((i : ℕ) → i < length v → T (real (at v i))) → (i : ℕ) (s : Bool) → i < length v → at v i ≡ inf s → largest v ≡ inf false
unfolding largest
largest_inf v r i s l h = top_inf v (length v) r i s l h

-- ---- it is one of them, and +0 is that of zeros only

-- where in the list it stands
pub record Among (v : List Float) (k : ℕ) (x : Float) : Type 0 where
  pub place : ℕ
  pub inside : place < k
  pub is : x ≡ magnitude (at v place)

top_among : (v : List Float) (k : ℕ) → (largest_to v k ≡ nought) ⊎ Among v k (largest_to v k)
unfolding largest_to larger
top_among v zero = inl refl
top_among v (suc k) = pick (is_nan (magnitude (at v k)) || lt (largest_to v k) (magnitude (at v k))) (top_among v k)
  where
    pick : (b : Bool) → (largest_to v k ≡ nought) ⊎ Among v k (largest_to v k)
        → (cond b (magnitude (at v k)) (largest_to v k) ≡ nought) ⊎ Among v (suc k) (cond b (magnitude (at v k)) (largest_to v k))
    pick true h = inr (record { place = k; inside = le_refl (suc k); is = refl })
    pick false (inl e) = inl e
    pick false (inr a) = inr (record { place = a.place; inside = le_trans a.inside (le-suc k); is = a.is })

pub largest_among : (v : List Float) → (largest v ≡ nought) ⊎ Among v (length v) (largest v)
unfolding largest
largest_among v = top_among v (length v)

pub largest_zeros : (v : List Float) → largest v ≡ nought → (i : ℕ) → i < length v → eq (at v i) nought ≡ true
largest_zeros v e i h =
    let plain : T (real nought) = unfold is_nan of_bits in tt in
    let over : T (le (magnitude (at v i)) nought) = subst (λ (x : Float). T (le (magnitude (at v i)) x)) e (largest_over v (subst (λ (x : Float). T (real x)) (sym e) plain) i h) in
    sym (magnitude_zero (at v i)) ∙ is_true _ over

-- ---- of finite numbers it is finite

larger_finite : (x y : Float) → finite x ≡ true → finite y ≡ true → finite (larger x y) ≡ true
unfolding larger
larger_finite x y a b = pick (is_nan x || lt y x) where
  pick : (c : Bool) → finite (cond c x y) ≡ true
  pick true = a
  pick false = b

magnitude_finite : (x : Float) → finite (magnitude x) ≡ finite x
unfolding magnitude finite
magnitude_finite nan = refl
magnitude_finite (inf s) = refl
magnitude_finite (fin s m e) = refl

top_finite : (v : List Float) (k : ℕ) → ((i : ℕ) → i < k → finite (at v i) ≡ true) → finite (largest_to v k) ≡ true
unfolding largest_to
top_finite v zero h = unfold finite of_bits in refl
top_finite v (suc k) h =
    larger_finite (magnitude (at v k)) (largest_to v k) (magnitude_finite (at v k) ∙ h k (le_refl (suc k))) (top_finite v k (λ i l. h i (le_trans l (le-suc k))))

pub largest_finite : (v : List Float) → ((i : ℕ) → i < length v → finite (at v i) ≡ true) → finite (largest v) ≡ true
unfolding largest
largest_finite v h = top_finite v (length v) h
