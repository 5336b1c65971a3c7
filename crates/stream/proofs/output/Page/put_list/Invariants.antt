use lib.ListN.{take}
use Rattle.stream.specs.Pieces.{Puts, spaced}
use Rattle.stream.proofs.output.Page.put_list.Given as goal

abbrev pub invariant-loop-x : goal.invariant-loop-x
invariant-loop-x l = Puts (spaced (take l.x-index l.v)) l.initial.self l.self
