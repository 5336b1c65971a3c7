-- The lines that a program puts on a page, told by their pieces. Definitions only.
use Rattle.std.specs.Prelude.{List, [], ◌∷◌, ℕ, Float}
use Rattle.std.specs.Float.{binary64}
use Rattle.std.specs.Float.Ieee.{to_bits}
use Rattle.words.specs.Words.{hex_of}
pub use Rattle.words.specs.Ascii.{ascii}
use Rattle.stream.specs.Output.{Put, PutWhole}
use Rattle.stream.specs.declared.output.Page.{Page}

-- what a line is made of: texts, and whole numbers in decimal
pub data Piece : Type 0 where
  text : List ℕ → Piece
  whole : ℕ → Piece

-- a piece was put on a page
abbrev pub PutPiece : Piece → (page page' : Page) → Type 0
PutPiece (text t) page page' = Put t page page'
PutPiece (whole n) page page' = PutWhole n page page'

-- pieces were put on it, one after another
pub data Puts : List Piece → (page page' : Page) → Type 0 where
  none : {page : Page} → Puts [] page page
  one : {p : Piece} {ps : List Piece} {page page₁ page' : Page} → PutPiece p page page₁ → Puts ps page₁ page' → Puts (p ∷ ps) page page'

abbrev pub blank : Piece
blank = text (ascii " ")

abbrev pub line_end : Piece
line_end = text (10 ∷ [])

-- a number's bits as 16 hexadecimal digits
abbrev pub number_piece : Float → Piece
number_piece x = text (hex_of 16 (to_bits binary64 x))

-- numbers, each behind a blank
unfoldable pub spaced : List Float → List Piece
spaced [] = []
spaced (x ∷ v) = blank ∷ number_piece x ∷ spaced v

-- a number behind its name, and a list of them
abbrev pub named : (name : List ℕ) → Float → List Piece
named name x = text name ∷ number_piece x ∷ []

abbrev pub listed : (name : List ℕ) → List Float → List Piece
listed name v = text name ∷ spaced v

-- `refused ` k
abbrev pub refused_line : ℕ → List Piece
refused_line k = text (ascii "refused ") ∷ whole k ∷ line_end ∷ []
