-- `vectors::vector::largest` meets its contract. The loop's invariant: top is the pattern of the largest of the magnitudes so far. Assumes nothing.
use Rattle.std.proofs.Common.{ℕ, ◌+◌, ◌%◌, ◌^◌, ◌≤◌, ◌≡◌, ◌∙◌, refl, sym, ap, List, length, arith, add-one, max}
use mathlib.Core.Logic.{dite}
use native.Mathlib.Decide.{dec_lt}
use native.Mathlib.Nat.{max-eq_left, max-eq_right}
use lib.Dec.{T}
use lib.Ieee.{Float, binary64, fits, of_bits, to_bits}
use lib.Ieee.Bits.{of_bits-to_bits}
use Rattle.float.specs.Numbers.{magnitude}
use Rattle.vectors.specs.Vector.{at, largest_to, largest}
use Rattle.float.proofs.Patterns.{magnitude_fits, magnitude_sign, magnitude_bits, larger_bits}
use Rattle.vectors.proofs.Largest.{top_fits, top_sign}
use Rattle.vectors.proofs.vector.largest.Goals as goal

module _ (v : List Float) (fit : (i : ℕ) → T (fits binary64 (at v i))) where
  -- the pattern of a magnitude, and that of the larger of it and the largest before it
  more : (i top b : ℕ) → top ≡ to_bits binary64 (largest_to v i) → b ≡ to_bits binary64 (at v i) → max top (b % 2 ^ 63) ≡ to_bits binary64 (largest_to v (i + 1))
  unfolding largest_to
  more i top b e h =
      let m = magnitude (at v i) in
      let bits = larger_bits m (largest_to v i) (magnitude_fits (at v i) (fit i)) (top_fits v fit i) (magnitude_sign (at v i)) (top_sign v i) in
      let is : b % 2 ^ 63 ≡ to_bits binary64 m = ap (λ (z : ℕ). z % 2 ^ 63) h ∙ sym (magnitude_bits (at v i) (fit i)) in
      rw (add-one, e, is)
      (dite (dec_lt (to_bits binary64 (largest_to v i)) (to_bits binary64 m))
      (λ low. max-eq_right (omega arith) ∙ bits.0 low)
      (λ high. let le : to_bits binary64 m ≤ to_bits binary64 (largest_to v i) = omega (arith, high) in max-eq_left le ∙ bits.1 le))

  done : (i top : ℕ) (r : Float) → i ≡ length v → top ≡ to_bits binary64 (largest_to v i) → r ≡ of_bits binary64 top → r ≡ largest v
  unfolding largest
  done i top r n e h = h ∙ ap (of_bits binary64) (e ∙ ap (λ (j : ℕ). to_bits binary64 (largest_to v j)) n) ∙ of_bits-to_bits binary64 (largest_to v (length v)) (top_fits v fit (length v))

pub loop-x-init : goal.loop-x-init
unfolding largest_to to_bits of_bits
loop-x-init c = refl

pub loop-x-preserved : goal.loop-x-preserved
loop-x-preserved c = c.max-top.ensures ∙ more c.args.v.now c.type_inv.v c.loop-x.x-index c.loop-x.top c.bits_of.result c.loop-x.invariant c.bits_of.ensures

pub returns : goal.returns
returns c = done c.args.v.now c.type_inv.v c.loop-x.x-index c.loop-x.top c.float_of.result (omega arith) c.loop-x.invariant c.float_of.ensures
