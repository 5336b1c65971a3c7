-- What the elementwise loops make, as the vector that the paper names. Assumes nothing.
use mathlib.Core.Path.{◌≡◌, refl, sym, ap}
use mathlib.Core.List.{List}
use Prim.Native.Nat.{ℕ}
use lib.Ieee.{Float, neg}
use Rattle.float.specs.Numbers.{◌⊕◌, ◌⊖◌, ◌⊗◌, ◌⊘◌}
use Rattle.float.specs.Constants.{one}
use Rattle.vectors.specs.Vector.{at, plus, minus, scale, over, less}
use Rattle.vectors.proofs.Vectors.{at_tab, tab_same}
use Rattle.kernels.specs.Workspace.{map, zip}

module _ (n : ℕ) (x : List Float) (a : Float) where
  pub map_times : map n (λ u. u ⊗ a) x ≡ scale n x a
  unfolding map scale
  map_times = refl

  pub map_over : map n (λ u. u ⊘ a) x ≡ over n x a
  unfolding map over
  map_over = refl

module _ (n : ℕ) (x y : List Float) where
  pub zip_minus : zip n (λ u v. u ⊖ v) x y ≡ minus n x y
  unfolding zip minus
  zip_minus = refl

  module _ (a : Float) where
    pub zip_plus_times : zip n (λ u v. u ⊕ v ⊗ a) x y ≡ plus n x (scale n y a)
    unfolding zip plus scale
    zip_plus_times = tab_same n _ _ (λ i h. ap (λ z. at x i ⊕ z) (sym (at_tab n _ i h)))

    pub zip_turned_plus_times : zip n (λ u v. u ⊗ neg one ⊕ v ⊗ a) x y ≡ plus n (scale n x (neg one)) (scale n y a)
    unfolding zip plus scale
    zip_turned_plus_times = tab_same n _ _ (λ i h. let p = at_tab n (λ j. at x j ⊗ neg one) i h in let q = at_tab n (λ j. at y j ⊗ a) i h in rw (p, q))

    pub zip_less_times : zip n (λ u v. u ⊖ a ⊗ v) x y ≡ less n x a y
    unfolding zip less
    zip_less_times = refl
