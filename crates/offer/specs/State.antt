-- What a session of either kind keeps beside its settings, and what its calls say. Definitions only.
use Rattle.std.specs.Prelude.{Bool, true, false, ◌&&◌, cond, [], ◌∷◌, Result, Ok, Err, ℕ, ◌+◌, leb, Float}
use Rattle.std.specs.Float.Ieee.{le, is_nan}
use Rattle.float.specs.Numbers.{finite}
use Rattle.float.specs.Constants.{nought}
use Rattle.vectors.specs.Refusal.{Answer, refused, given, all_hold}
use Rattle.vectors.specs.declared.refusal.Refusal.{Refusal}
use Rattle.vectors.specs.declared.refusal.Refusal.TheVariants.{Turn}
use Rattle.offer.specs.declared.state.Phase.{Phase}
use Rattle.offer.specs.declared.state.Phase.TheVariants.{Ready, AwaitingCost, AwaitingDerivatives}
use Rattle.offer.specs.declared.state.Promise as code
use Rattle.offer.specs.declared.state.State.{State}
use Rattle.offer.specs.declared.state.Said.{Said}
use Rattle.offer.specs.declared.state.Said.TheVariants.{Accepted, Rejected}

-- ---- "A session is the settings with the radius and the cost and a phase"; request Five adds "the number of NaN answers in a row"

abbrev pub begin : (radius cost : Float) → State
begin radius cost = record { radius = radius; cost = cost; phase = Ready; count = 0 }

-- with another radius and cost, in another phase, with another count
abbrev pub moved : State → (radius cost : Float) → Phase → (count : ℕ) → State
moved state radius cost phase count = record { radius = radius; cost = cost; phase = phase; count = count }

-- only in another phase
abbrev pub in_phase : Phase → State → State
in_phase phase state = moved state state.radius state.cost phase state.count

-- "A NaN answer raises the count; any other answer taken sets it to 0"
abbrev pub counted : (F : Float) → ℕ → ℕ
counted F count = cond (is_nan F) (count + 1) 0

-- "a setting for the most allowed, 1 to 1,000"
abbrev pub allowable : ℕ → Bool
allowable allowance = leb 1 allowance && leb allowance 1000

-- not "a session with negative or not finite radius, or cost not finite"
abbrev pub steady : State → Bool
steady state = all_hold (finite state.radius ∷ le nought state.radius ∷ finite state.cost ∷ [])

-- ---- phases: "ready; awaiting a cost, with the model value and step norm it was promised on; awaiting derivatives"

-- one of three, by the phase
abbrev pub by_phase : {A : Type 0} → (ready : A) → (cost : (value norm : Float) → A) → (derivatives : A) → Phase → A
by_phase ready cost derivatives Ready = ready
by_phase ready cost derivatives (AwaitingCost value norm) = cost value norm
by_phase ready cost derivatives AwaitingDerivatives = derivatives

abbrev pub is_ready : Phase → Bool
is_ready = by_phase true (λ value norm. false) false

abbrev pub awaits_cost : Phase → Bool
awaits_cost = by_phase false (λ value norm. true) false

abbrev pub awaits_derivatives : Phase → Bool
awaits_derivatives = by_phase false (λ value norm. false) true

-- the model value m, or SR1's "P .. kept in place of m", and the step norm
abbrev pub Promise : Type 0
Promise = code.Promise

-- what a session that awaits a cost was promised on; any other is out of turn
abbrev pub promised : Phase → Answer Promise
promised = by_phase (refused Turn) (λ value norm. given (record { value = value; norm = norm })) (refused Turn)

-- ---- what a call says

-- an answer as the code returns it
abbrev pub result_of : {A : Type 0} → Answer A → Result A Refusal
result_of (refused r) = Err r
result_of (given a) = Ok a

-- of a call: its refusal, or what it says
abbrev pub Outcome : Type 0
Outcome = Result Said Refusal

abbrev pub verdict_of : (accepted : Bool) → (ratio : Float) → Said
verdict_of accepted ratio = cond accepted (Accepted ratio) (Rejected ratio)
