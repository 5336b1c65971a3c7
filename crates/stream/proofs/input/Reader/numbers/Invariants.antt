use Rattle.stream.proofs.Filling.{Filling}
use Rattle.stream.proofs.input.Reader.numbers.Given as goal

abbrev pub invariant-loop-x : goal.invariant-loop-x
invariant-loop-x l = Filling l.initial.self l.initial.x-items l.x-index l.self l.x-items
