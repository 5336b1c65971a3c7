-- `shortest::whole::Whole::repeat` meets its contract. Assumes nothing.
use mathlib.Core.Path.{◌∙◌}
use native.Mathlib.Omega.{arith}
use Rattle.shortest.specs.Whole.{cap}
use Rattle.shortest.proofs.Turns.{power_more, power_fits}
use Rattle.shortest.proofs.whole.Whole.repeat.Goals as goal

pub times-requires : goal.times-requires
times-requires c =
    let args = c.args in
    (omega arith, power_fits args.k c.loop.counter args.count args.self.now c.loop.self cap (omega arith) (omega arith) c.loop.invariant c.requires.2)

pub loop-preserved : goal.loop-preserved
loop-preserved c =
    c.times.ensures ∙ power_more c.args.k c.loop.counter c.loop.self c.args.self.now c.loop.invariant
