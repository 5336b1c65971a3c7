-- What happened, as lines of words; the quotations are from docs/PROGRAMS.md, "replay". The byte 10 that ends a line may stand in one text with the first word
-- of the next. Definitions only.
use Rattle.std.specs.Prelude.{ℕ, Bool, cond, List, [], ◌∷◌, ◌++◌, Float}
use Prim.Native.String.{String}
use Rattle.stream.specs.Pieces.{Piece, text, whole, ascii, line_end, named, listed, refused_line}
use Rattle.vectors.specs.Refusal.{number}
use Rattle.offer.specs.declared.state.Phase.{Phase}
use Rattle.offer.specs.declared.state.Phase.TheVariants.{Ready, AwaitingCost, AwaitingDerivatives}
use Rattle.offer.specs.declared.state.State.{State}
use Rattle.event.specs.declared.Event.{Event}
use Rattle.event.specs.declared.Event.TheVariants.{Started, NotStarted, Refused, Done, Proposed, Judged, Taken, Changed, Ended, Bad}

-- ---- the lines of a call

-- a line that is the same every time
abbrev pub plain_line : String → List Piece
plain_line words = text (ascii words ++ (10 ∷ [])) ∷ []

-- "`proposed PASSES`, then `step` and its n numbers, then `trial` and its n numbers"
abbrev pub proposed_lines : (passes : ℕ) → (step trial : List Float) → List Piece
proposed_lines passes step trial =
    (text (ascii "proposed ") ∷ whole passes ∷ [])
    ++ listed (10 ∷ ascii "step") step
    ++ listed (10 ∷ ascii "trial") trial
    ++ (line_end ∷ [])

abbrev pub verdict : (accepted : Bool) → List ℕ
verdict accepted = cond accepted (ascii "accepted ") (ascii "rejected ")

-- "`accepted RATIO radius RADIUS` or `rejected RATIO radius RADIUS`, the radius afterwards"
abbrev pub judged_line : (accepted : Bool) → (ratio radius : Float) → List Piece
judged_line accepted ratio radius = named (verdict accepted) ratio ++ named (ascii " radius ") radius ++ (line_end ∷ [])

-- ---- "The end .. six lines say where the session stands, and in kinds 3 and 4 a seventh"

-- "end ready or end cost A B (model value or predicted fall, and step norm), or end derivatives"
abbrev pub phase_line : Phase → List Piece
phase_line Ready = text (ascii "end ready") ∷ []
phase_line (AwaitingCost value norm) = named (ascii "end cost ") value ++ named (ascii " ") norm
phase_line AwaitingDerivatives = text (ascii "end derivatives") ∷ []

-- and behind it "radius H", "cost H"
abbrev pub state_lines : State → List Piece
state_lines state = phase_line state.phase ++ named (10 ∷ ascii "radius ") state.radius ++ named (10 ∷ ascii "cost ") state.cost

-- "point H ..", "gradient H ..", "hessian H .."
abbrev pub list_lines : (point gradient hessian : List Float) → List Piece
list_lines point gradient hessian = listed (10 ∷ ascii "point") point ++ listed (10 ∷ ascii "gradient") gradient ++ listed (10 ∷ ascii "hessian") hessian

-- "in kinds 3 and 4 alone: the count of hidden trials in a row, a whole number"
abbrev pub count_line : (tells_more : Bool) → (count : ℕ) → List Piece
count_line tells_more count = cond tells_more (text (ascii "count ") ∷ whole count ∷ line_end ∷ []) []

abbrev pub end_lines : State → (tells_more : Bool) → (point gradient hessian : List Float) → List Piece
end_lines state tells_more point gradient hessian =
    state_lines state
    ++ list_lines point gradient hessian
    ++ (line_end ∷ [])
    ++ count_line tells_more state.count

-- ---- what is written of each event

-- The lists are those of the session, as they are afterwards. The end tells more in kinds 3 and 4.
abbrev pub lines : Event → (tells_more : Bool) → (point gradient hessian step trial : List Float) → List Piece
lines (Started state) tells_more point gradient hessian step trial = plain_line "start"
lines (NotStarted r) tells_more point gradient hessian step trial = refused_line (number r)
lines (Refused r) tells_more point gradient hessian step trial = refused_line (number r)
lines Done tells_more point gradient hessian step trial = plain_line "done"
lines (Proposed passes) tells_more point gradient hessian step trial = proposed_lines passes step trial
lines (Judged accepted cost ratio radius) tells_more point gradient hessian step trial = judged_line accepted ratio radius
lines Taken tells_more point gradient hessian step trial = plain_line "taken"
lines Changed tells_more point gradient hessian step trial = []
lines (Ended state) tells_more point gradient hessian step trial = end_lines state tells_more point gradient hessian
lines Bad tells_more point gradient hessian step trial = plain_line "bad input"
