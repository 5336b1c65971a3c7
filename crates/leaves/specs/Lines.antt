-- The line that is written of a call. Definitions only.
use Rattle.std.specs.Prelude.{List, [], ◌∷◌, ◌++◌, Result, Ok, Err, Float}
use Rattle.stream.specs.Pieces.{Piece, ascii, line_end, named, listed, refused_line}
use Rattle.vectors.specs.Refusal.{number}
use Rattle.vectors.specs.declared.refusal.Refusal.{Refusal}

-- of a call that comes to a number
abbrev pub answer_line : Result Float Refusal → List Piece
answer_line (Ok x) = named (ascii "is ") x ++ (line_end ∷ [])
answer_line (Err r) = refused_line (number r)

-- of one that writes a list, which may be none
abbrev pub outcome_line : Result (Unit {0}) Refusal → (out : List Float) → List Piece
outcome_line (Ok x) out = listed (ascii "is") out ++ (line_end ∷ [])
outcome_line (Err r) out = refused_line (number r)
