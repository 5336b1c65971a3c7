use Rattle.std.proofs.Common.{take}
use Rattle.stream.specs.Pieces.{Puts}
use Rattle.report.specs.Table.{number_lines}
use Rattle.report.proofs.table.numbers.Given as goal

abbrev pub invariant-loop-x : goal.invariant-loop-x
invariant-loop-x l = Puts (number_lines (take l.x-index l.point)) l.initial.page l.page
