-- What a call comes to on a station: one session of either kind, and the vectors that it is lent. Definitions only.
use Rattle.std.specs.Prelude.{◌≡◌, Result, Ok, Err, Float}
use Rattle.vectors.specs.Refusal.{Answer, refused, given}
use Rattle.vectors.specs.declared.refusal.Refusal.{Refusal}
use Rattle.offer.specs.Run as Run
use Rattle.offer.specs.Run.{Vectors}
use Rattle.offer.specs.declared.state.State.{State}
use Rattle.offer.specs.State.{Outcome}
use Rattle.event.specs.Event.{said}
use Rattle.event.specs.declared.Event.{Event}
use Rattle.event.specs.declared.Event.TheVariants.{Changed, Bad}
use Rattle.station.specs.declared.Session.{Session}
use Rattle.station.specs.declared.After.{After}

abbrev pub Station : Type 0
Station = Run.Station Session

abbrev pub at : Session → Vectors → Station
at s v = record { session = s; lent = v }

-- what happened, and the station afterwards
pub record Happened : Type 0 where
  pub event : Event
  pub after : Station

-- of a session of one kind, which is one of either kind by `either`
module _ {S : Type 0} (either : S → Session) (state : S → State) where
  -- by what the call said, where F is the trial's cost: the radius is the one afterwards
  abbrev pub happened : Outcome → (F : Float) → Run.Station S → Happened
  happened o F s = record { event = said o F (state s.session).radius; after = at (either s.session) s.lent }

  abbrev pub began : Answer S → Result Session Refusal
  began (refused r) = Err r
  began (given s) = Ok (either s)

-- a caller puts another session there, or the words make no call: the vectors stay
abbrev pub put : Session → Vectors → Happened
put s v = record { event = Changed; after = at s v }

abbrev pub bad : Session → Vectors → Happened
bad s v = record { event = Bad; after = at s v }

-- the code's call that returned r and left the vectors v did this
pub record Performed (h : Happened) (r : After) (v : Vectors) : Type 0 where
  pub says : r.event ≡ h.event
  pub leaves : at r.session v ≡ h.after
