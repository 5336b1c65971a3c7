-- `Reading::next` meets its contract. Assumes nothing.
use Rattle.std.proofs.Common.{arith, refl}
use Rattle.fit.specs.Reading.{limit, input}
use Rattle.fit.proofs.reading.Reading.next.Goals as goal

pub returns-then-self-eq0 : goal.returns-then-self-eq0
returns-then-self-eq0 c = limit c.if-self-eq0.true

pub returns-in-Ok : goal.returns-in-Ok
returns-in-Ok c = (c.in-Ok.ensures, omega (arith, c.if-self-eq0.false))

pub returns-in-Err : goal.returns-in-Err
returns-in-Err c = input c.in-Err.ensures refl
