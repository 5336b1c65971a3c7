-- Pieces that are put one after another. Assumes nothing.
use mathlib.Core.Path.{◌≡◌, refl, ap}
use mathlib.Core.List.{List, [], ◌∷◌, ◌++◌}
use Prim.Native.Nat.{ℕ, ◌+◌, ◌<◌}
use native.Mathlib.Numerals.{add-one}
use lib.ListN.{length, take, get_or}
use lib.Seq.{take-suc}
use lib.Ieee.{Float, nan}
use Rattle.stream.specs.declared.output.Page.{Page}
use Rattle.stream.specs.Pieces.{Piece, PutPiece, Puts, none, one, blank, number_piece, spaced}

pub puts_one : {p : Piece} {page page' : Page} → PutPiece p page page' → Puts (p ∷ []) page page'
puts_one p = one p none

pub puts_append : {ps qs : List Piece} {page page₁ page' : Page} → Puts ps page page₁ → Puts qs page₁ page' → Puts (ps ++ qs) page page'
puts_append none q = q
puts_append (one p r) q = one p (puts_append r q)

spaced_snoc : (v : List Float) (x : Float) → spaced (v ++ (x ∷ [])) ≡ spaced v ++ (blank ∷ number_piece x ∷ [])
unfolding spaced
spaced_snoc [] x = refl
spaced_snoc (y ∷ v) x = ap (λ (l : List Piece). blank ∷ number_piece y ∷ l) (spaced_snoc v x)

-- one number more
pub spaced_more : (v : List Float) (i : ℕ) {page page₁ page₂ page₃ : Page} → i < length v → Puts (spaced (take i v)) page page₁
    → PutPiece blank page₁ page₂ → PutPiece (number_piece (get_or v i nan)) page₂ page₃ → Puts (spaced (take (i + 1) v)) page page₃
spaced_more v i h before gap digits = rw (add-one i, take-suc v i nan h, spaced_snoc) (puts_append before (one gap (one digits none)))
