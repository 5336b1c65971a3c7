-- What the words of a script come to, call by call. Definitions only.
use Rattle.std.specs.Prelude.{◌≡◌, ℕ, ◌+◌, ◌%◌, ◌^◌, ◌≤◌, Bool, cond, not, List, length, Option}
use Rattle.stream.specs.Input.{Same}
use Rattle.stream.specs.Pieces.{Piece, Puts}
use Rattle.stream.specs.declared.input.Over.{Over}
use Rattle.stream.specs.declared.output.Page.{Page}
use Rattle.offer.specs.Run.{Vectors}
use Rattle.script.specs.Call as Call
use Rattle.script.specs.Call.{asked}
use Rattle.event.specs.Event.{is_last}
use Rattle.event.specs.declared.Event.{Event}
use Rattle.event.specs.declared.Event.TheVariants as event
use Rattle.station.specs.Happening as Happening
use Rattle.station.specs.Happening.{Station, Happened, Performed}
use Rattle.station.specs.Station.{kind_of, state_of, perform}
use Rattle.report.specs.Lines.{lines}
use Rattle.report.specs.Table.{rows}
use Rattle.fit.specs.Reading.{Came_to, wants_more, is_end}
use Rattle.fit.specs.declared.Manner.{Manner}
use Rattle.fit.specs.declared.Manner.TheVariants as manner
use Rattle.fit.specs.declared.Form.{Form}
use Rattle.fit.specs.declared.Standing.{Standing}
use Rattle.fit.specs.declared.reading.Reading.{Reading}

-- "Where the input ends behind a whole call", the end; and else what the words of a call ask, which may be odd
abbrev pub comes_to : (n : ℕ) → Station → (words : List ℕ) → Option Over → Happened
comes_to n s words e =
    cond (is_end e (length words)) (record { event = event.Ended (state_of s.session); after = s })
    (perform (asked (kind_of s.session) n words) s)

-- ---- how it is written

-- how many trials were answered, where so many were before: a u64 counts them
abbrev pub trials_after : ℕ → Event → ℕ
trials_after k (event.Started s) = k
trials_after k (event.NotStarted r) = k
trials_after k (event.Refused r) = k
trials_after k event.Done = k
trials_after k (event.Proposed passes) = k
trials_after k (event.Judged accepted F ratio radius) = (k + 1) % 2 ^ 64
trials_after k event.Taken = k
trials_after k event.Changed = k
trials_after k (event.Ended s) = k
trials_after k event.Bad = k

abbrev pub written : Manner → (trials : ℕ) → Event → (tells_more : Bool) → Vectors → List Piece
written manner.Lines trials e tells_more v = lines e tells_more v.point v.gradient v.hessian v.step v.trial
written manner.Table trials e tells_more v = rows trials e v.point

-- ---- one turn: the words of a call were read, or the script ended; what they come to was written

pub record Turned (f : Form) (at : Standing) (script : Reading) (page : Page) (v : Vectors) (r : Standing) (script' : Reading) (page' : Page) (v' : Vectors) : Type 0 where
  pub words : List ℕ
  pub how : Option Over
  pub event : Event
  pub comes : Came_to how script words script'
  pub enough : wants_more how (Call.wants (kind_of at.session) f.n words) ≤ length words
  pub happens : Performed (comes_to f.n (Happening.at at.session v) words how) (record { session = r.session; event = event }) v'
  pub puts : Puts (written f.manner at.trials event f.tells_more v') page page'
  pub counts : r.trials ≡ trials_after at.trials event
  pub goes_on : r.running ≡ not (is_last event)

-- ---- the room and the page are the lent bytes that they were

abbrev pub SamePage : (page page' : Page) → Type 0
SamePage page page' = Same page.bytes page'.bytes

pub record Kept (script : Reading) (page : Page) (script' : Reading) (page' : Page) : Type 0 where
  pub room : Same script.input.room script'.input.room
  pub paper : SamePage page page'

-- a script was run, and no word of it is left
pub record Ended (script : Reading) (page : Page) (script' : Reading) (page' : Page) : Type 0 where
  pub over : script'.left ≡ 0
  pub kept : Kept script page script' page'
