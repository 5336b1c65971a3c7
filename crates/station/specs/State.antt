-- What a caller can put into a session that it holds. Definitions only.
use Rattle.std.specs.Prelude.{ℕ, Float}
use Rattle.offer.specs.State.{moved}
use Rattle.offer.specs.declared.state.State.{State}
use Rattle.offer.specs.declared.state.Phase.{Phase}

-- "puts this radius, cost and phase into the session .. The count of hidden trials in a row stays."
abbrev pub changed : State → (radius cost : Float) → Phase → State
changed was radius cost phase = moved was radius cost phase was.count

-- "puts this count into the session, a whole number, and nothing else"
abbrev pub counted : State → (count : ℕ) → State
counted was count = moved was was.radius was.cost was.phase count
