-- What puts leave is the page that it was. Assumes nothing.
use Rattle.std.proofs.Common.{◌≡◌, ℕ, Bool, true, false, cond, List, length, refl, ap, ◌∙◌}
use Rattle.std.specs.Borrow.{MutBor}
use Rattle.words.specs.Words.{fits_at, placed}
use Rattle.words.proofs.Laws.{length_placed}
use Rattle.stream.specs.Input.{Same}
use Rattle.stream.specs.Output.{Put, page_after}
use Rattle.stream.specs.Pieces.{Piece, text, whole, PutPiece, Puts, none, one}
use Rattle.stream.specs.declared.output.Page.{Page}
use Rattle.stream.proofs.Found.{same, same_still}

after_long : (page : List ℕ) (at : ℕ) (t : List ℕ) → length (page_after page at t) ≡ length page
unfolding page_after
after_long page at t = by_test (fits_at page at (length t)) where
  by_test : (b : Bool) → length (cond b (placed page at t) (placed page 0 t)) ≡ length page
  by_test true = length_placed page at t
  by_test false = length_placed page 0 t

put_same : (p : Page) (t : List ℕ) (p' : Page) → Put t p p' → Same p.bytes p'.bytes
put_same p t p' q = record {
  lies = ap (λ (b : MutBor (List ℕ)). b.ref_ptr) q.paper;
  name = ap (λ (b : MutBor (List ℕ)). b.ghost_name) q.paper;
  long = ap (λ (b : MutBor (List ℕ)). length b.now) q.paper ∙ after_long p.bytes.now p.at t;
}

piece_same : (c : Piece) (p p' : Page) → PutPiece c p p' → Same p.bytes p'.bytes
piece_same (text t) p p' q = put_same p t p' q
piece_same (whole n) p p' q = put_same p _ p' q.put

pub puts_same : {cs : List Piece} {p p' : Page} → Puts cs p p' → Same p.bytes p'.bytes
puts_same none = same refl
puts_same (one {p = c} q qs) = same_still (piece_same c _ _ q) (puts_same qs)
