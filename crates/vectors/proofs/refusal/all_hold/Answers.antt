-- `vectors::refusal::all_hold` meets its contract. The loop's invariant: what was seen and what is left of the tests decide. Assumes nothing.
use Rattle.std.proofs.Common.{ℕ, ◌+◌, ◌<◌, ◌≤◌, suc, ◌≡◌, ◌∙◌, sym, Bool, false, ◌&&◌, List, length, drop, get_or, add-one}
use lib.ListN.{drop_of_length-le}
use lib.Seq.{drop-cons}
use Rattle.vectors.specs.Refusal.{all_hold}
use Rattle.vectors.proofs.Sizes.{and_assoc, and_true}
use Rattle.vectors.proofs.refusal.all_hold.Goals as goal

module _ (tests : List Bool) (i : ℕ) (all : Bool) (inv : (all && all_hold (drop i tests)) ≡ all_hold tests) where
  more : i < length tests → ((all && get_or tests i false) && all_hold (drop (i + 1) tests)) ≡ all_hold tests
  more h =
      let split = drop-cons tests i false h in
      rw add-one (and_assoc all (get_or tests i false) (all_hold (drop (suc i) tests)) ∙ (rw split at inv))

  done : length tests ≤ i → all ≡ all_hold tests
  done h = sym (and_true all) ∙ (rw (drop_of_length-le tests h) at inv)

pub loop-test-preserved : goal.loop-test-preserved
loop-test-preserved c = more c.args.tests.now c.loop-test.test-index c.loop-test.all c.loop-test.invariant c.loop-test-test.true

pub returns : goal.returns
returns c = done _ c.loop-test.test-index c.loop-test.all c.loop-test.invariant c.loop-test-test.false
