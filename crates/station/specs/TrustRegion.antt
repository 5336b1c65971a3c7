-- The calls of a `TrustRegion` session, by the run of its definitions. Definitions only.
use Rattle.std.specs.Prelude.{Result, Float}
use Rattle.float.specs.Constants.{nought}
use Rattle.vectors.specs.declared.refusal.Refusal.{Refusal}
use Rattle.offer.specs.Run.{Vectors}
use Rattle.offer.specs.declared.state.State.{State}
use Rattle.trustregion.specs.Settings.{chosen}
use Rattle.trustregion.specs.Session as Session
use Rattle.trustregion.specs.Session.{turned}
use Rattle.trustregion.specs.Run as Run
use Rattle.trustregion.specs.declared.settings.Settings.{Settings}
use Rattle.script.specs.Call.{Call, trust_region, sr1, change, count, odd}
use Rattle.station.specs.Happening as Happening
use Rattle.station.specs.Happening.{Happened, happened}
use Rattle.station.specs.State.{changed, counted}
use Rattle.station.specs.declared.Session as either
use Rattle.station.specs.declared.Session.TheVariants.{TrustRegion}

abbrev pub state_of : Session.Session → State
state_of s = s.state

abbrev pub begin : Settings → (cost : Float) → Result either.Session Refusal
begin settings cost = Happening.began TrustRegion state_of (Session.start settings cost)

-- the cost that a request tells
abbrev pub cost_of : Run.Request → Float
cost_of (Run.propose n) = nought
cost_of (Run.cost n F) = F
cost_of (Run.derivatives n g H) = nought

-- a request is a call of the session's run
unfoldable pub requested : Session.Session → Vectors → Run.Request → Happened
unfolding Run.respond
requested s v q = let d = Run.respond chosen q (record { session = s; lent = v }) in happened TrustRegion state_of (Run.outcome d.reply) (cost_of q) d.after

-- one of the other kind is no call
abbrev pub perform : Session.Session → Vectors → Call → Happened
perform s v (trust_region q) = requested s v q
perform s v (sr1 q) = Happening.bad (TrustRegion s) v
perform s v (change radius cost phase) = Happening.put (TrustRegion (turned s (changed s.state radius cost phase))) v
perform s v (count k) = Happening.put (TrustRegion (turned s (counted s.state k))) v
perform s v odd = Happening.bad (TrustRegion s) v
