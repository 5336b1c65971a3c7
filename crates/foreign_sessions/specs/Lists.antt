-- What both kinds of session share of their lists. Definitions only.
-- Words: 10, their number; kernel, limit, allowance, dogleg, edition; phase, count; what the last call said, passes. Numbers: epsilon; radius, cost; promise and step norm; ratio.
use Rattle.std.specs.Prelude.{◌≡◌, Bool, ◌&&◌, cond, List, [], ◌∷◌, Ok, Err, ℕ, get_or, eqb, leb, Float}
use Rattle.float.specs.Constants.{nought}
use Rattle.vectors.specs.Refusal.{number, Answer, refused, given}
use Rattle.vectors.specs.Vector.{at}
use Rattle.offer.specs.State.{Outcome, begin, moved}
use Rattle.offer.specs.declared.state.State.{State}
use Rattle.offer.specs.declared.state.Said.TheVariants.{Proposed, Accepted, Rejected, Taken, Done}
use Rattle.offer.specs.Session.{Kind, start}
use Rattle.offer.specs.declared.session.Session.{Session}
use Rattle.codec.specs.Codec.{phase_of, turn_of}
use Rattle.codec.specs.declared.Wholes.{Wholes}

-- the word at index i
abbrev pub word : List ℕ → ℕ → ℕ
word words i = get_or words i 0

-- ---- from lists

-- the kernel is 0 where the words are of another layout, or the phase is none: refusal 2 meets it
abbrev pub wholes_in : (phase_known : Bool) → (words : List ℕ) → Wholes
wholes_in phase_known words = record {
  kernel = cond (eqb (word words 0) 10 && phase_known) (word words 1) 0;
  limit = word words 2;
  allowance = word words 3;
  dogleg = word words 4;
  edition = word words 5;
}

abbrev pub state_in : (phase count : ℕ) → (numbers : List Float) → State
state_in phase count numbers = moved (begin (at numbers 1) (at numbers 2)) (at numbers 1) (at numbers 2) (phase_of (record { number = phase; promise = at numbers 3; norm = at numbers 4 })) count

-- by how a kind's settings stand in words and numbers, and the last phase that it comes to
module _ {S : Type 0} (settings_of : Wholes → (epsilon : Float) → (own : List Float) → S) (last : ℕ) where
  abbrev pub session_at : (phase : ℕ) → (words : List ℕ) → (numbers own : List Float) → Session S
  session_at phase words numbers own = record {
    settings = settings_of (wholes_in (leb phase last) words) (at numbers 0) own;
    state = state_in phase (word words 7) numbers;
  }

  abbrev pub session_in : (words : List ℕ) → (numbers own : List Float) → Session S
  session_in words numbers own = session_at (word words 6) words numbers own

-- ---- into lists

-- what a call returns, 0 or a refusal's number, and leaves in the two lists
pub record Told : Type 0 where
  pub number : ℕ
  pub words : List ℕ
  pub numbers : List Float

abbrev pub told : ℕ → List ℕ → List Float → Told
told number words numbers = record { number = number; words = words; numbers = numbers }

-- where a call is taken: the next state and what was said; the first six words and epsilon stay
abbrev pub written : (words : List ℕ) → (numbers : List Float) → State → (said passes : ℕ) → (ratio : Float) → Told
written words numbers state said passes ratio =
    let turn = turn_of state.phase in
    told 0 (word words 0 ∷ word words 1 ∷ word words 2 ∷ word words 3 ∷ word words 4 ∷ word words 5 ∷ turn.number ∷ state.count ∷ said ∷ passes ∷ []) (at numbers 0 ∷ state.radius ∷ state.cost ∷ turn.promise ∷ turn.norm ∷ ratio ∷ [])

-- a refusal writes nothing
abbrev pub kept : (words : List ℕ) → (numbers : List Float) → State → Outcome → Told
kept words numbers state (Err r) = told (number r) words numbers
kept words numbers state (Ok (Proposed passes)) = written words numbers state 1 passes nought
kept words numbers state (Ok (Accepted ratio)) = written words numbers state 2 0 ratio
kept words numbers state (Ok (Rejected ratio)) = written words numbers state 3 0 ratio
kept words numbers state (Ok Taken) = written words numbers state 4 0 nought
kept words numbers state (Ok Done) = written words numbers state 5 0 nought

-- ---- the calls, of either kind

-- a start, by its answer
abbrev pub began : {Session : Type 0} → (words : List ℕ) → (numbers : List Float) → (Session → State) → Answer Session → Told
began words numbers state_of (refused r) = told (number r) words numbers
began words numbers state_of (given s) = written words numbers (state_of s) 0 0 nought

-- a start looks at no phase
abbrev pub starts : {S : Type 0} → Kind S → (settings_of : Wholes → Float → List Float → S) → (last : ℕ) → (words : List ℕ) → (numbers own : List Float) → Told
starts kind settings_of last words numbers own = began words numbers (λ (s : Session _). s.state) (start kind (session_at settings_of last 0 words numbers own).settings (at numbers 2))

-- a call on a session that stands in lists: what the call by value returns, `Call` holds of it, is kept in them
pub record Driven {Session After : Type 0} (session : Session) (kept : After → Told) (Call : Session → After → Type 0) (t : Told) : Type 0 where
  pub after : After
  pub calls : Call session after
  pub keeps : t ≡ kept after
