-- The pieces of a case's lines. Assumes nothing.
use mathlib.Core.Path.{◌≡◌, refl, ap}
use mathlib.Core.List.{List, [], ◌∷◌, ◌++◌}
use Prim.Native.Nat.{ℕ, ◌+◌, ◌<◌}
use native.Mathlib.Numerals.{add-one}
use lib.ListN.{length, take, get_or}
use lib.Seq.{take-suc}
use lib.Ieee.{Float, nan}
use Rattle.stream.specs.declared.output.Page.{Page}
use Rattle.stream.specs.Pieces.{Piece, PutPiece, Puts, one, line_end, number_piece}
use Rattle.stream.proofs.Pieces.{puts_one, puts_append}
use Rattle.case.specs.Lines.{number_lines}

lines_snoc : (v : List Float) (x : Float) → number_lines (v ++ (x ∷ [])) ≡ number_lines v ++ (number_piece x ∷ line_end ∷ [])
unfolding number_lines
lines_snoc [] x = refl
lines_snoc (y ∷ v) x = ap (λ (l : List Piece). number_piece y ∷ line_end ∷ l) (lines_snoc v x)

-- one number more
pub numbers_more : (v : List Float) (i : ℕ) {page page₁ page₂ page₃ : Page} → i < length v → Puts (number_lines (take i v)) page page₁
    → PutPiece (number_piece (get_or v i nan)) page₁ page₂ → PutPiece line_end page₂ page₃ → Puts (number_lines (take (i + 1) v)) page page₃
numbers_more v i h before digits end = rw (add-one i, take-suc v i nan h, lines_snoc) (puts_append before (one digits (puts_one end)))
