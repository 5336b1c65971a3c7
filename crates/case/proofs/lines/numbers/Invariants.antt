use lib.ListN.{take}
use Rattle.stream.specs.Pieces.{Puts}
use Rattle.case.specs.Lines.{number_lines}
use Rattle.case.proofs.lines.numbers.Given as goal

abbrev pub invariant-loop-x : goal.invariant-loop-x
invariant-loop-x l = Puts (number_lines (take l.x-index l.v)) l.initial.page l.page
