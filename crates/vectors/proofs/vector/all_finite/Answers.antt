-- `vectors::vector::all_finite` meets its contract. The loop's invariant: what was seen and what is left of v decide. Assumes nothing.
use Rattle.std.proofs.Common.{ℕ, ◌+◌, ◌<◌, ◌≤◌, ◌≡◌, ◌∙◌, sym, ap, Bool, ◌&&◌, List, length, drop, add-one}
use lib.ListN.{drop_of_length-le}
use lib.Seq.{drop-cons}
use lib.Ieee.{Float, nan}
use Rattle.float.specs.Numbers.{finite}
use Rattle.vectors.specs.Vector.{at, all_finite}
use Rattle.vectors.proofs.Sizes.{and_assoc, and_true}
use Rattle.vectors.proofs.vector.all_finite.Goals as goal

module _ (v : List Float) (i : ℕ) (all : Bool) (inv : (all && all_finite (drop i v)) ≡ all_finite v) where
  -- what is left at i is the number at i and what is left after it
  more : (seen : Bool) → i < length v → seen ≡ finite (at v i) → ((all && seen) && all_finite (drop (i + 1) v)) ≡ all_finite v
  unfolding all_finite
  more seen inside e =
      let split : all_finite (drop i v) ≡ (finite (at v i) && all_finite (drop (i + 1) v)) = rw (add-one, drop-cons v i nan) in
      rw e (and_assoc all (finite (at v i)) (all_finite (drop (i + 1) v)) ∙ ap (λ (b : Bool). all && b) (sym split) ∙ inv)

  -- nothing is left
  done : length v ≤ i → all ≡ all_finite v
  unfolding all_finite
  done h = sym (and_true all) ∙ (rw (drop_of_length-le v h) at inv)

pub loop-x-preserved : goal.loop-x-preserved
loop-x-preserved c = more c.args.v.now c.loop-x.x-index c.loop-x.all c.loop-x.invariant _ c.loop-x-test.true c.finite-all.ensures

pub returns : goal.returns
returns c = done _ c.loop-x.x-index c.loop-x.all c.loop-x.invariant c.loop-x-test.false
