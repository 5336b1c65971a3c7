use Rattle.fit.proofs.Words.{Filling}
use Rattle.fit.proofs.reading.Reading.fill.Given as goal

abbrev pub invariant-loop-count : goal.invariant-loop-count
invariant-loop-count l = Filling l.initial.words l.initial.count l.want l.initial.self l.self l.words l.count
