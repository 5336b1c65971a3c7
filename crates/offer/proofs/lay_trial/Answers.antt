-- `offer::lay_trial` meets its contract. The loop's invariant: the first i numbers of slot 1 are the trial's. Assumes nothing.
use mathlib.Core.Path.{◌≡◌, subst}
use mathlib.Core.List.{List}
use Prim.Native.Nat.{ℕ, ◌+◌, ◌*◌, ◌<◌}
use native.Mathlib.Omega.{arith}
use lib.ListN.{set}
use lib.Ieee.{Float}
use borrow.Author.Rules.{rules}
use Rattle.vectors.specs.Vector.{at, plus}
use Rattle.vectors.specs.Slots.{slot}
use Rattle.vectors.proofs.Slots.{Writing, writing_none, writing_read, writing_more, writing_done}
use Rattle.offer.proofs.lay_trial.Goals as goal

-- slot 1 starts at n, slot 0 at 0
module _ {old w : List Float} {n : ℕ} {f : ℕ → Float} {i : ℕ} (p : Writing old n 1 f w i) (h : i < n) where
  beside_more : {y : Float} → y ≡ f i → Writing old n 1 f (set w (n + i) y) (i + 1)
  beside_more {y} e = let one : 1 * n + i ≡ n + i = omega arith in subst (λ (k : ℕ). Writing old n 1 f (set w k y) (i + 1)) one (writing_more p h e)

  first_read : at w i ≡ at (slot old n 0) i
  first_read = let none : 0 * n + i ≡ i = omega arith in subst (λ (k : ℕ). at w k ≡ at (slot old n 0) i) none (writing_read p 0 h)

pub loop-i-init : goal.loop-i-init
unfolding plus
loop-i-init c = writing_none (search rules)

pub loop-i-preserved : goal.loop-i-preserved
loop-i-preserved c =
    let inv = c.loop-i.invariant in
    let h = c.loop-i-test.true in
    beside_more inv h (rw (first_read inv h))

pub returns : goal.returns
unfolding plus
returns c = writing_done c.loop-i.invariant (search rules)
