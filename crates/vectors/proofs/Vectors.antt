-- Laws of tabulated vectors. Assumes nothing.
use mathlib.Core.Path.{◌≡◌, refl, sym, ◌∙◌, ap}
use mathlib.Core.List.{List, ◌∷◌}
use Prim.Native.Nat.{ℕ, zero, suc, ◌+◌, ◌<◌, ◌≤◌}
use native.Mathlib.Numerals.{add-one}
use native.Mathlib.Nat.{not-suc-le-zero, le_of_suc-le-suc}
use native.Mathlib.Omega.{arith}
use lib.ListN.{length, replicate, get_or-eq_default}
use lib.Seq.{ext_get_or}
use lib.Ieee.{Float, nan}
use Rattle.float.specs.Numbers.{◌⊕◌, ◌⊗◌}
use Rattle.float.specs.Constants.{nought}
use Rattle.float.proofs.Nan.{add_nan, mul_nan}
use Rattle.vectors.specs.Vector.{at, tab, zeros, dot_to, dot, times_at, times, weighted, plus, scale}

pub length_tab : (n : ℕ) (f : ℕ → Float) → length (tab n f) ≡ n
unfolding tab
length_tab zero f = refl
length_tab (suc n) f = ap suc (length_tab n (λ i. f (suc i)))

pub at_tab : (n : ℕ) (f : ℕ → Float) (i : ℕ) → i < n → at (tab n f) i ≡ f i
unfolding tab
at_tab zero f i h = absurd (not-suc-le-zero h)
at_tab (suc n) f zero h = refl
at_tab (suc n) f (suc i) h = at_tab n (λ j. f (suc j)) i (le_of_suc-le-suc h)

-- a vector is its numbers
pub tab_at : (v : List Float) (n : ℕ) → length v ≡ n → tab n (at v) ≡ v
tab_at v n e = ext_get_or nan (tab n (at v)) v (length_tab n (at v) ∙ sym e) (λ i h. at_tab n (at v) i (omega (arith, length_tab n (at v))))

-- two tables of the same numbers
pub tab_same : (n : ℕ) (f g : ℕ → Float) → ((i : ℕ) → i < n → f i ≡ g i) → tab n f ≡ tab n g
tab_same n f g h =
    ext_get_or nan (tab n f) (tab n g) (length_tab n f ∙ sym (length_tab n g))
    (λ i l. let small : i < n = omega (arith, l, length_tab n f) in at_tab n f i small ∙ h i small ∙ sym (at_tab n g i small))

-- zeros are what a slice is filled with
pub zeros_again : (n : ℕ) → replicate n nought ≡ zeros n
unfolding zeros tab
zeros_again zero = refl
zeros_again (suc n) = ap (λ (v : List Float). nought ∷ v) (zeros_again n)

-- ---- lengths, and the numbers of H·d

pub length_plus : (n : ℕ) (x y : List Float) → length (plus n x y) ≡ n
unfolding plus
length_plus n x y = length_tab n _

pub length_scale : (n : ℕ) (x : List Float) (a : Float) → length (scale n x a) ≡ n
unfolding scale
length_scale n x a = length_tab n _

module _ (n : ℕ) (H d : List Float) where
  pub at_times : (i : ℕ) → i < n → at (times n H d) i ≡ times_at n H d i
  unfolding times
  at_times = at_tab n (times_at n H d)

-- a·(H·b), product by product
module _ (n : ℕ) (a H b : List Float) where
  pub weighted_more : (i : ℕ) (sum y : Float) → i < n → sum ≡ dot_to a (times n H b) i → y ≡ times_at n H b i → sum ⊕ at a i ⊗ y ≡ dot_to a (times n H b) (i + 1)
  unfolding dot_to
  weighted_more i sum y h e f = rw (add-one, e, f, at_times n H b i h)

  pub weighted_done : (i : ℕ) (sum : Float) → i ≡ length a → sum ≡ dot_to a (times n H b) i → sum ≡ weighted n a H b
  unfolding weighted dot
  weighted_done i sum e f = rw e at f

-- ---- a list that lacks a number makes the dot a NaN

dot_to_short : (a b : List Float) (k : ℕ) → length b ≤ k → dot_to a b (suc k) ≡ nan
unfolding dot_to
dot_to_short a b k h = rw (get_or-eq_default b nan h, mul_nan.second (at a k), add_nan.second (dot_to a b k))

pub dot_short : (a b : List Float) → length b < length a → nan ≡ dot a b
unfolding dot
dot_short a b h = go (length a) h
  where
    go : (l : ℕ) → length b < l → nan ≡ dot_to a b l
    go zero h = absurd (not-suc-le-zero h)
    go (suc k) h = sym (dot_to_short a b k (le_of_suc-le-suc h))
