-- The calls on a session of either kind. Definitions only.
use Rattle.std.specs.Prelude.{Option, Some, None, Result, List, Float}
use Rattle.vectors.specs.declared.refusal.Refusal.{Refusal}
use Rattle.offer.specs.Run.{Vectors}
use Rattle.offer.specs.State.{Outcome}
use Rattle.offer.specs.declared.state.State.{State}
use Rattle.script.specs.Call.{Call, asks}
use Rattle.script.specs.declared.call.Call as code
use Rattle.script.specs.declared.Kind.{Kind}
use Rattle.script.specs.declared.Kind.TheVariants as kind
use Rattle.script.specs.declared.start.Start.{Start}
use Rattle.script.specs.declared.start.Start.TheVariants as start
use Rattle.event.specs.Event.{said}
use Rattle.event.specs.declared.Event.TheVariants.{Bad}
use Rattle.station.specs.Happening.{Station, at, Happened, Performed}
use Rattle.trustregion.specs.Session as trustregion
use Rattle.sr1.specs.Session as sr1_session
use Rattle.station.specs.TrustRegion as trust_region
use Rattle.station.specs.Sr1 as sr1
use Rattle.station.specs.declared.Session.{Session}
use Rattle.station.specs.declared.Session.TheVariants.{TrustRegion, Sr1}
use Rattle.station.specs.declared.After.{After}

-- no words, no start
abbrev pub begin : Option Start → Option (Result Session Refusal)
begin (Some (start.TrustRegion settings cost)) = Some (trust_region.begin settings cost)
begin (Some (start.Sr1 settings cost)) = Some (sr1.begin settings cost)
begin None = None

abbrev pub kind_of : Session → Kind
kind_of (TrustRegion s) = kind.TrustRegion
kind_of (Sr1 s) = kind.Sr1

abbrev pub state_of : Session → State
state_of (TrustRegion s) = s.state
state_of (Sr1 s) = s.state

abbrev pub perform_by : Session → Vectors → Call → Happened
perform_by (TrustRegion s) v c = trust_region.perform s v c
perform_by (Sr1 s) v c = sr1.perform s v c

abbrev pub perform : Call → Station → Happened
perform c s = perform_by s.session s.lent c

-- ---- as the code does it: c is its call, G and H come with an answer, r is what it returns, v are the vectors that it is lent, v' those that it leaves

abbrev pub Performs : Session → (c : Option code.Call) → (G H : List Float) → (v : Vectors) → (r : After) → (v' : Vectors) → Type 0
Performs s c G H v r v' = Performed (perform (asks (kind_of s) c G H) (at s v)) r v'

-- what a call of the session said, where F is the trial's cost
abbrev pub told : Session → Outcome → (F : Float) → After
told s o F = record { session = s; event = said o F (state_of s).radius }

-- the same where the session may have no such call
abbrev pub came : Session → Option Outcome → (F : Float) → After
came s (Some o) F = told s o F
came s None F = record { session = s; event = Bad }

-- the session in another state
abbrev pub turned : Session → State → Session
turned (TrustRegion s) state = TrustRegion (trustregion.turned s state)
turned (Sr1 s) state = Sr1 (sr1_session.turned s state)
