use Rattle.std.proofs.Common.{◌-◌}
use Rattle.fit.proofs.Words.{Partly, going}
use Rattle.fit.proofs.reading.Reading.read.Given as goal

abbrev pub invariant-loop-held : goal.invariant-loop-held
invariant-loop-held l = Partly l.part l.initial.words l.initial.self l.self l.words l.held l.want

abbrev pub decreases-loop-held : goal.decreases-loop-held
decreases-loop-held l = going l.held.ending (4239 - l.held.count)
