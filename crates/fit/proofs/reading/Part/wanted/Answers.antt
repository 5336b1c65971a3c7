-- `Part::wanted` meets its contract. Assumes nothing.
use Rattle.std.proofs.Common.{refl}
use Rattle.script.proofs.Starts as starts
use Rattle.script.proofs.Calls as calls
use Rattle.fit.proofs.reading.Part.wanted.Goals as goal

pub returns-in-Start : goal.returns-in-Start
returns-in-Start c = rw (c.in-Start.is, c.wanted.ensures) (refl, starts.wants_small c.args.words.now)

pub returns-in-Call : goal.returns-in-Call
returns-in-Call c = rw (c.in-Call.is, c.wanted-in-Call.ensures) (refl, calls.wants_small _ _ c.args.words.now)
