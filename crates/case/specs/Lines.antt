-- The lines that a program writes of a case. Definitions only.
use Rattle.std.specs.Prelude.{List, [], ◌∷◌, ◌++◌, Result, Ok, Err, ℕ, take, Float}
use Rattle.words.specs.Ascii.{ascii}
use Rattle.stream.specs.Pieces.{Piece, text, whole, blank, line_end, number_piece, refused_line}
use Rattle.vectors.specs.Refusal.{number}
use Rattle.vectors.specs.declared.refusal.Refusal.{Refusal}
use Rattle.case.specs.declared.Step.{Step}

-- each number on a line of its own
unfoldable pub number_lines : List Float → List Piece
number_lines [] = []
number_lines (x ∷ v) = number_piece x ∷ line_end ∷ number_lines v

-- `step ` n ` ` passes
abbrev pub step_line : (n passes : ℕ) → List Piece
step_line n passes = text (ascii "step ") ∷ whole n ∷ blank ∷ whole passes ∷ line_end ∷ []

abbrev pub lines : Result Step Refusal → (step : List Float) → List Piece
lines (Ok found) step = step_line found.size found.passes ++ number_lines (take found.size step)
lines (Err r) step = refused_line (number r)
