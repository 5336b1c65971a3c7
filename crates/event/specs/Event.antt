-- What happened, by what a call said. Definitions only.
use Rattle.std.specs.Prelude.{Bool, true, false, Ok, Err, Float}
use Rattle.offer.specs.State.{Outcome}
use Rattle.offer.specs.declared.state.Said.TheVariants as say
use Rattle.event.specs.declared.Event.{Event}
use Rattle.event.specs.declared.Event.TheVariants.{Started, NotStarted, Refused, Done, Proposed, Judged, Taken, Changed, Ended, Bad}

-- F is the trial's cost, radius the one afterwards
abbrev pub said : Outcome → (F radius : Float) → Event
said (Err r) F radius = Refused r
said (Ok say.Done) F radius = Done
said (Ok (say.Proposed passes)) F radius = Proposed passes
said (Ok (say.Accepted ratio)) F radius = Judged true F ratio radius
said (Ok (say.Rejected ratio)) F radius = Judged false F ratio radius
said (Ok say.Taken) F radius = Taken

-- "After a refused start nothing is written any more"; nothing follows the end, nor `bad input`
abbrev pub is_last : Event → Bool
is_last (Started s) = false
is_last (NotStarted r) = true
is_last (Refused r) = false
is_last Done = false
is_last (Proposed k) = false
is_last (Judged accepted F ratio radius) = false
is_last Taken = false
is_last Changed = false
is_last (Ended s) = true
is_last Bad = true
