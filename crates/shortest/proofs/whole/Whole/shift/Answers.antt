-- `shortest::whole::Whole::shift` meets its contract. Assumes nothing.
use mathlib.Core.Path.{◌∙◌}
use native.Mathlib.Omega.{arith}
use Rattle.shortest.specs.Whole.{cap}
use Rattle.shortest.proofs.Turns.{shift_whole, shift_fits}
use Rattle.shortest.proofs.whole.Whole.shift.Goals as goal

pub repeat-requires : goal.repeat-requires
repeat-requires c =
    (omega arith, omega arith, shift_fits c.args.count c.args.self.now cap c.requires)

pub repeat-requires-2 : goal.repeat-requires-2
repeat-requires-2 c =
    (omega arith, omega arith, rw (c.repeat.ensures, shift_whole c.args.count c.args.self.now) c.requires)

pub returns : goal.returns
returns c =
    c.repeat-2.ensures ∙ rw c.repeat.ensures (shift_whole c.args.count c.args.self.now)
