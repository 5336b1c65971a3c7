-- The radius rule, the editions' rules, a run, the order of the checks, and hidden trials in a row, worked out over the definitions. Assumes nothing. (Document 01's marked cases are crates/marked.)
use mathlib.Core.Path.{◌≡◌, refl}
use mathlib.Core.Bool.{Bool, true, false}
use mathlib.Core.List.{List, [], ◌∷◌, ◌++◌, map}
use Prim.Native.Nat.{ℕ, ◌^◌}
use lib.Ieee.{Float, nan, inf, binary64, round, of_bits, add, sub, mul, div, neg, lt, le, eq, ne, is_nan}
use Rattle.std.specs.Prelude.{Ok, Err}
use Rattle.float.specs.Constants.{nought, one, two, half, thousandth}
use Rattle.vectors.specs.Vector.{zeros}
use Rattle.vectors.specs.Refusal.{Answer, refused, given, number, room}
use Rattle.kernels.specs.Choice as Choice
use Rattle.vectors.specs.declared.refusal.Refusal.TheVariants.{Size, Turn}
use Rattle.offer.specs.State.{begin, moved, in_phase}
use Rattle.offer.specs.Run.{own, Call, Entry, run, final}
use Rattle.sr1.specs.Settings.{settings_of, allowing, updating, by_default, chosen}
use Rattle.sr1.specs.Session.{Session, start, proposal, next_radius, updates, judgement}
use Rattle.sr1.specs.Run.{Station, Request, propose, answer, Told, outcome, respond}
use Rattle.offer.specs.declared.state.Phase.{Phase}
use Rattle.offer.specs.declared.state.Phase.TheVariants.{Ready, AwaitingCost}
use Rattle.offer.specs.declared.state.Said.TheVariants.{Proposed, Accepted}

infix 30 ◌over◌
-- a / b, rounded once
unfoldable pub ◌over◌ : ℕ → ℕ → Float
unfolding round
a over b = round binary64 false a b

abbrev session : (radius f : Float) → Phase → Session
session radius f phase = record { settings = by_default 1 5; state = in_phase phase (begin radius f) }

-- ---- "ap > 0.75 keeps it if ‖s‖ ≤ 0.8·radius, else doubles; 0.1 ≤ ap ≤ 0.75 keeps; else, NaN too, halves"

-- at radius 10: a short step, one of 8, a longer one; 0.75, 0.1 and what is below it; a NaN
pub radii :
    next_radius one one (10 over 1)
    ∷ next_radius one (8 over 1) (10 over 1)
    ∷ next_radius one (9 over 1) (10 over 1)
    ∷ next_radius (3 over 4) (9 over 1) (10 over 1)
    ∷ next_radius (1 over 10) one (10 over 1)
    ∷ next_radius (9 over 100) one (10 over 1)
    ∷ next_radius nan one (10 over 1)
    ∷ []
    ≡ (10 over 1) ∷ (10 over 1) ∷ (20 over 1) ∷ (10 over 1) ∷ (10 over 1) ∷ (5 over 1) ∷ (5 over 1) ∷ []
unfolding ◌over◌ next_radius of_bits mul lt le
radii = refl

-- ---- request Seven: edition 1 is "|q| ≥ (factor·‖s‖)·|q|", edition 2 "|q| ≥ (factor·‖s‖)·‖z‖ and q is not 0"

-- by a factor of 0.5, with the promised ‖s‖, the number z and q
abbrev by_edition : (edition : ℕ) → (norm z q : Float) → Bool
by_edition edition norm z q = updates (updating edition (settings_of (Choice.by_default 1 5) one thousandth half thousandth)) norm (z ∷ []) q

abbrev both_editions : (norm z q : Float) → List Bool
both_editions norm z q = by_edition 1 norm z q ∷ by_edition 2 norm z q ∷ []

-- ‖s‖ 2 and ‖z‖ 3: q at the bound of 3, at −3, and below it; q of +0 and of −0; an infinite q; a z, a norm and a q that are none; ‖z‖ that overflows; ‖s‖ so long that edition 1 skips too
pub rules :
    both_editions two (3 over 1) (3 over 1)
    ++ both_editions two (3 over 1) (neg (3 over 1))
    ++ both_editions two (3 over 1) (6755399441055743 over 2 ^ 51)
    ++ both_editions two (3 over 1) nought
    ++ both_editions two (3 over 1) (neg nought)
    ++ both_editions two (3 over 1) (inf true)
    ++ both_editions two nan (3 over 1)
    ++ both_editions nan (3 over 1) (3 over 1)
    ++ both_editions two (3 over 1) nan
    ++ both_editions two (2 ^ 600 over 1) (2 ^ 1000 over 1)
    ++ both_editions (3 over 1) one one
    ≡ true ∷ true ∷ true ∷ true ∷ true ∷ false ∷ true ∷ false ∷ true ∷ false ∷ true ∷ true ∷ true ∷ false ∷ false ∷ false ∷ false ∷ false ∷ true ∷ false ∷ false ∷ false ∷ []
unfolding ◌over◌ updates Choice.kernel of_bits add mul neg le eq ne
rules = refl

-- ---- a run

-- The Cauchy point of g = (3, 4) and the identity at radius 2.5 is (−1.5, −2), of length 2.5; the model promises a fall of 9.375.
unfoldable pub station : Station
unfolding ◌over◌ zeros
station = record {
  session = session (5 over 2) (10 over 1) Ready;
  lent = record {
    point = one ∷ one ∷ [];
    gradient = (3 over 1) ∷ (4 over 1) ∷ [];
    hessian = one ∷ nought ∷ nought ∷ one ∷ [];
    step = nought ∷ nought ∷ [];
    trial = nought ∷ nought ∷ [];
    scratch = zeros (room 2);
  };
}

abbrev call : Request → Call Request
call q = record { request = q; lending = own }

-- A trial, with calls inside it that are refused by 3 and by 1. Its answer has z = (0, −2) and q = 4, so that the last number of the Hessian gains 1.
abbrev script : List (Call Request)
script = call (propose 2) ∷ call (propose 2) ∷ call (answer 3 one []) ∷ call (answer 2 (5 over 8) ((3 over 2) ∷ nought ∷ [])) ∷ []

abbrev numbers : Station → List Float
numbers s = s.session.state.radius ∷ s.session.state.cost ∷ s.lent.point ++ s.lent.gradient ++ s.lent.hessian

-- The ratio is 1, and the radius doubles.
pub record Ran : Type 0 where
  pub replies : map (λ (e : Entry Request Told). outcome e.reply) (run (respond chosen) station script) ≡ Ok (Proposed 0) ∷ Err Turn ∷ Err Size ∷ Ok (Accepted one) ∷ []
  pub ends : numbers (final (respond chosen) station script) ≡ (5 over 1) ∷ (5 over 8) ∷ neg (1 over 2) ∷ neg one ∷ (3 over 2) ∷ nought ∷ one ∷ nought ∷ nought ∷ two ∷ []

pub ran : Ran
unfolding station ◌over◌ zeros respond Choice.kernel of_bits add sub mul div neg lt le eq is_nan
ran = record { replies = refl; ends = refl }

-- ---- "Checked in this order; the lowest that applies is given, and none is given otherwise."

abbrev numbered : {A : Type 0} → Answer A → ℕ
numbered (refused r) = number r
numbered (given a) = 0

-- a start at a radius
abbrev begins : (radius f : Float) → ℕ
begins radius f = numbered (start (settings_of (Choice.choice_of 1 one 0) radius thousandth half (neg nought)) f)

-- a proposal asked of a session at a point of two numbers and a gradient
abbrev asked : (radius f : Float) → Phase → ℕ → (point gradient : List Float) → ℕ
asked radius f phase n point gradient = numbered (proposal chosen (session radius f phase) n point gradient (one ∷ nought ∷ nought ∷ one ∷ []) point point (zeros (room 2)))

-- an answer of F to one, at a trial of one number
abbrev told : (radius : Float) → Phase → (n : ℕ) (F trial : Float) → ℕ
told radius phase n F trial = numbered (judgement (session radius one phase) n F (one ∷ []) (nan ∷ []) (one ∷ []) (trial ∷ []) (two ∷ []) (one ∷ []) (zeros (room 1)))

-- each call has the faults of those after it too, as far as it can; "done" comes before refusal 5
pub lowest :
    begins nought nan
    ∷ begins (neg one) nan
    ∷ begins (neg one) one
    ∷ asked nan one (AwaitingCost one one) 3 (nan ∷ one ∷ []) (one ∷ one ∷ [])
    ∷ asked nan one (AwaitingCost one one) 2 (nan ∷ one ∷ []) (one ∷ one ∷ [])
    ∷ asked nought one (AwaitingCost one one) 2 (nan ∷ one ∷ []) (nought ∷ nought ∷ [])
    ∷ asked nought one Ready 2 (nan ∷ one ∷ []) (nought ∷ nought ∷ [])
    ∷ asked nought one Ready 2 (one ∷ one ∷ []) (nought ∷ nought ∷ [])
    ∷ asked nought one Ready 2 (one ∷ one ∷ []) (one ∷ one ∷ [])
    ∷ asked one one Ready 2 (one ∷ one ∷ []) (one ∷ one ∷ [])
    ∷ told (neg one) Ready 2 (inf false) nan
    ∷ told (neg one) Ready 1 (inf false) nan
    ∷ told one Ready 1 (inf false) nan
    ∷ told one (AwaitingCost one one) 1 nan nan
    ∷ told one (AwaitingCost one one) 1 (inf false) one
    ∷ told one (AwaitingCost one one) 1 nan one
    ∷ []
    ≡ 2 ∷ 4 ∷ 0 ∷ 1 ∷ 2 ∷ 3 ∷ 4 ∷ 0 ∷ 5 ∷ 0 ∷ 1 ∷ 2 ∷ 3 ∷ 4 ∷ 4 ∷ 0 ∷ []
unfolding zeros start proposal judgement Choice.kernel of_bits add sub mul div neg lt le eq is_nan
lowest = refl

-- ---- request Five: hidden trials in a row

-- with an allowance and a count
abbrev counting : (radius : Float) → Phase → (allowance count : ℕ) → Session
counting radius phase allowance count = record { settings = allowing allowance (by_default 1 5); state = moved (begin radius one) radius one phase count }

abbrev asked_again : (radius : Float) → Phase → (allowance count : ℕ) → (gradient : List Float) → ℕ
asked_again radius phase allowance count gradient =
    numbered (proposal chosen (counting radius phase allowance count) 2 (one ∷ one ∷ []) gradient (one ∷ nought ∷ nought ∷ one ∷ []) (one ∷ one ∷ []) (one ∷ one ∷ []) (zeros (room 2)))

abbrev told_again : Phase → (count : ℕ) → (F : Float) → ℕ
told_again phase count F = numbered (judgement (counting one phase 2 count) 1 F (one ∷ []) (one ∷ []) (one ∷ []) (one ∷ []) (two ∷ []) (one ∷ []) (zeros (room 1)))

-- done before 5, 5 before 9, 9 at the allowance and not below it; above it 2, before 3 and before done; the borders of the setting
pub hidden_lowest :
    asked_again nought Ready 2 2 (nought ∷ nought ∷ [])
    ∷ asked_again nought Ready 2 2 (one ∷ one ∷ [])
    ∷ asked_again one Ready 2 2 (one ∷ one ∷ [])
    ∷ asked_again one Ready 2 1 (one ∷ one ∷ [])
    ∷ asked_again one (AwaitingCost one one) 2 3 (one ∷ one ∷ [])
    ∷ asked_again one Ready 2 3 (nought ∷ nought ∷ [])
    ∷ asked_again one Ready 0 0 (one ∷ one ∷ [])
    ∷ asked_again one Ready 1000 1000 (one ∷ one ∷ [])
    ∷ asked_again one Ready 1001 0 (one ∷ one ∷ [])
    ∷ told_again Ready 3 nan
    ∷ told_again (AwaitingCost one one) 2 nan
    ∷ []
    ≡ 0 ∷ 5 ∷ 9 ∷ 0 ∷ 2 ∷ 2 ∷ 2 ∷ 9 ∷ 2 ∷ 2 ∷ 0 ∷ []
unfolding zeros proposal judgement Choice.kernel of_bits add sub mul div neg lt le eq is_nan
hidden_lowest = refl

-- the station of above, with an allowance
abbrev patient : ℕ → Station
patient allowance = record { session = record { settings = allowing allowance (by_default 1 5); state = station.session.state }; lent = station.lent }

abbrev count_of : List (Call Request) → ℕ
count_of cs = (final (respond chosen) (patient 2) cs).session.state.count

-- a trial answered with F and a gradient: where that is (1.5, 2), z is (0, 0), q is 0, and the answer is refused by 8
abbrev trial_of : (F : Float) → (G : List Float) → List (Call Request)
trial_of F G = call (propose 2) ∷ call (answer 2 F G) ∷ []

-- A NaN is one more, another answer ends the row, and a NaN that is refused by 8 leaves the count.
pub record Counted : Type 0 where
  pub one_more : count_of (trial_of nan ((3 over 2) ∷ nought ∷ [])) ≡ 1
  pub other : count_of (trial_of nan ((3 over 2) ∷ nought ∷ []) ++ trial_of one ((3 over 2) ∷ nought ∷ [])) ≡ 0
  pub by_8 : map (λ (e : Entry Request Told). numbered e.reply) (run (respond chosen) (patient 2) (trial_of nan ((3 over 2) ∷ (2 over 1) ∷ []))) ≡ 0 ∷ 8 ∷ []
  pub left : count_of (trial_of nan ((3 over 2) ∷ (2 over 1) ∷ [])) ≡ 0

pub counted_right : Counted
unfolding station ◌over◌ zeros respond Choice.kernel of_bits add sub mul div neg lt le eq is_nan
counted_right = record { one_more = refl; other = refl; by_8 = refl; left = refl }

-- ---- request Seven: a session that names its edition

-- "an unknown edition is 2", at a start and, where a caller puts one in, at a proposal and an answer
abbrev named : (edition : ℕ) → List ℕ
named edition =
    let t = updating edition (by_default 1 5) in
    let s : (phase : Phase) → Session = λ phase. record { settings = t; state = in_phase phase (begin one one) } in
    numbered (start t one)
    ∷ numbered (proposal chosen (s Ready) 1 (one ∷ []) (one ∷ []) (one ∷ []) (one ∷ []) (one ∷ []) (zeros (room 1)))
    ∷ numbered (judgement (s (AwaitingCost one one)) 1 one (one ∷ []) (one ∷ []) (one ∷ []) (one ∷ []) (two ∷ []) (one ∷ []) (zeros (room 1)))
    ∷ []

pub editions_named : named 0 ++ named 1 ++ named 2 ++ named 3 ≡ 2 ∷ 2 ∷ 2 ∷ 0 ∷ 0 ∷ 0 ∷ 0 ∷ 0 ∷ 0 ∷ 2 ∷ 2 ∷ 2 ∷ []
unfolding zeros start proposal judgement Choice.kernel of_bits add sub mul div neg lt le eq ne is_nan
editions_named = refl

-- the patient station, by edition 2
abbrev careful : Station
careful = record { session = record { settings = updating 2 (allowing 2 (by_default 1 5)); state = station.session.state }; lent = station.lent }

-- A hidden trial with z = (0, 0), which edition 1 refuses by 8: it is taken, counted, halves the radius, and leaves the Hessian.
pub record Skipped : Type 0 where
  pub replies : map (λ (e : Entry Request Told). numbered e.reply) (run (respond chosen) careful (trial_of nan ((3 over 2) ∷ (2 over 1) ∷ []))) ≡ 0 ∷ 0 ∷ []
  pub counts : (final (respond chosen) careful (trial_of nan ((3 over 2) ∷ (2 over 1) ∷ []))).session.state.count ≡ 1
  pub ends : numbers (final (respond chosen) careful (trial_of nan ((3 over 2) ∷ (2 over 1) ∷ []))) ≡ (5 over 4) ∷ (10 over 1) ∷ one ∷ one ∷ (3 over 1) ∷ (4 over 1) ∷ one ∷ nought ∷ nought ∷ one ∷ []

pub skipped_right : Skipped
unfolding station ◌over◌ zeros respond Choice.kernel of_bits add sub mul div neg lt le eq ne is_nan
skipped_right = record { replies = refl; counts = refl; ends = refl }
