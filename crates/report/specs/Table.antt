-- What happened, as a table for people: a row for each trial that was answered, its numbers in decimal. Definitions only.
use Rattle.std.specs.Prelude.{ℕ, ◌+◌, ◌-◌, ◌%◌, ◌^◌, Bool, true, false, cond, List, [], ◌∷◌, ◌++◌, length, replicate, is_nan, nat_lt, to_bits, Float}
use Rattle.std.specs.Float.{binary64}
use Rattle.stream.specs.Pieces.{Piece, text, whole, ascii, line_end}
use Rattle.decimal.specs.Text as decimal
use Rattle.vectors.specs.Refusal.{number}
use Rattle.vectors.specs.declared.refusal.Refusal.{Refusal}
use Rattle.vectors.specs.declared.refusal.Refusal.TheVariants.{Size, Setting, Turn, Entry, Radius, Pivot, Root, Range, Hidden}
use Rattle.offer.specs.declared.state.Phase.{Phase}
use Rattle.offer.specs.declared.state.Phase.TheVariants.{Ready, AwaitingCost, AwaitingDerivatives}
use Rattle.offer.specs.declared.state.State.{State}
use Rattle.event.specs.declared.Event.{Event}
use Rattle.event.specs.declared.Event.TheVariants.{Started, NotStarted, Refused, Done, Proposed, Judged, Taken, Changed, Ended, Bad}

-- ---- texts and numbers

abbrev pub blanks : ℕ → List ℕ
blanks k = replicate k 32

-- a text with blanks behind it, `width` places wide
abbrev pub padded : (width : ℕ) → List ℕ → List ℕ
padded width t = t ++ blanks (width - length t)

-- "Numbers are as `decimals` writes them"
abbrev pub decimal_of : Float → List ℕ
decimal_of x = decimal.text (to_bits binary64 x)

-- a number behind a text
abbrev pub told : List ℕ → Float → List Piece
told before x = text before ∷ text (decimal_of x) ∷ []

-- a cost and a radius, behind a text
abbrev pub kept : List ℕ → (cost radius : Float) → List Piece
kept before cost radius = told before cost ++ told (ascii ", radius ") radius

-- ---- the start

abbrev pub started : State → List Piece
started s =
    kept (ascii "Start at cost ") s.cost s.radius
    ++ (text (ascii ".\n\ntrial  cost                    ratio                   verdict   radius\n") ∷ [])

-- ---- what is refused: "with the number and the reason in words"

abbrev pub reason : Refusal → List ℕ
reason Size = ascii "n or a length is wrong\n"
reason Setting = ascii "a setting, or the radius, the cost or the count of the session, is out of range\n"
reason Turn = ascii "it is out of turn\n"
reason Entry = ascii "a number that came with it is not finite\n"
reason Radius = ascii "the radius is zero\n"
reason Pivot = ascii "the Hessian has no inverse, a pivot is zero or nearly\n"
reason Root = ascii "no root leads to the edge of the region\n"
reason Range = ascii "a number of the result would not be finite\n"
reason Hidden = ascii "as many trials as are allowed in a row were hidden: show the markers, then set the count to 0\n"

abbrev pub refused : List ℕ → Refusal → List Piece
refused before r = text before ∷ whole (number r) ∷ text (ascii "): ") ∷ text (reason r) ∷ []

-- ---- "A row is a trial that was answered, counted from 1: the cost that was told, the ratio, the verdict, the radius afterwards"

-- the number of a trial before which `trials` were answered, as 64 bits count
abbrev pub next : (trials : ℕ) → ℕ
next trials = (trials + 1) % 2 ^ 64

-- how many blanks stand before a number that ends at the fifth place
unfoldable pub margin : ℕ → ℕ
margin n = cond (nat_lt n 10) 4 (cond (nat_lt n 100) 3 (cond (nat_lt n 1000) 2 (cond (nat_lt n 10000) 1 0)))

abbrev pub numbered : ℕ → List Piece
numbered n = text (blanks (margin n)) ∷ whole n ∷ text (ascii "  ") ∷ []

-- no number takes more than 24 places
abbrev pub column : Float → Piece
column x = text (padded 24 (decimal_of x))

abbrev pub columns : ℕ → (cost ratio : Float) → List Piece
columns n cost ratio = numbered n ++ (column cost ∷ column ratio ∷ [])

-- "`hidden` is a rejected trial whose cost was a NaN"
abbrev pub word : (accepted hidden : Bool) → List ℕ
word true hidden = ascii "accepted"
word false true = ascii "hidden"
word false false = ascii "rejected"

abbrev pub verdict : (accepted : Bool) → (cost radius : Float) → List Piece
verdict accepted cost radius = told (padded 10 (word accepted (is_nan cost))) radius ++ (line_end ∷ [])

-- ---- "At the end cost, radius, what is due .., and the point, a number a line"

abbrev pub waiting : Phase → List ℕ
waiting Ready = ascii ", ready for a proposal.\n"
waiting (AwaitingCost promise norm) = ascii ", a cost is awaited.\n"
waiting AwaitingDerivatives = ascii ", derivatives are awaited.\n"

abbrev pub end : State → List Piece
end s = kept (ascii "\nEnd at cost ") s.cost s.radius ++ (text (waiting s.phase) ∷ [])

abbrev pub number_line : Float → List Piece
number_line x = told (ascii "       ") x ++ (line_end ∷ [])

unfoldable pub number_lines : List Float → List Piece
number_lines [] = []
number_lines (x ∷ v) = number_line x ++ number_lines v

abbrev pub points : List Float → List Piece
points point = text (ascii "Point:\n") ∷ number_lines point

-- ---- what is written of an event, before which `trials` were answered; the point is that of the session. "Proposals and derivatives that were
-- taken have no line"

abbrev pub rows : (trials : ℕ) → Event → (point : List Float) → List Piece
rows trials (Started s) point = started s
rows trials (NotStarted r) point = refused (ascii "The start is refused (") r
rows trials (Refused r) point = refused (ascii "       a call is refused (") r
rows trials Done point = text (ascii "       the gradient is below the tolerance: done\n") ∷ []
rows trials (Proposed passes) point = []
rows trials (Judged accepted cost ratio radius) point = columns (next trials) cost ratio ++ verdict accepted cost radius
rows trials Taken point = []
rows trials Changed point = text (ascii "       the session is changed by hand\n") ∷ []
rows trials (Ended s) point = end s ++ points point
rows trials Bad point = text (ascii "The input is bad: it ends inside a call, or a word of it is none that may stand there.\n") ∷ []
