use Rattle.std.proofs.Common.{◌≡◌, ◌&&◌, drop}
use Rattle.vectors.specs.Refusal.{all_hold}
use Rattle.vectors.proofs.refusal.all_hold.Given as goal

abbrev pub invariant-loop-test : goal.invariant-loop-test
invariant-loop-test l = (l.all && all_hold (drop l.test-index l.tests)) ≡ all_hold l.tests
