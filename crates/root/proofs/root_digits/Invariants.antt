use Rattle.root.proofs.Taken.{Taken}
use Rattle.root.proofs.root_digits.Given as goal

abbrev pub invariant-loop : goal.invariant-loop
invariant-loop l = Taken l.m l.a l.q l.r l.counter
