-- What a text that is put leaves on a page, from what the two attempts to put it there give. Assumes nothing.
use mathlib.Core.Path.{◌≡◌, sym, ap, ◌∙◌}
use mathlib.Core.Bool.{Bool, true, false}
use mathlib.Core.List.{List}
use Prim.Native.Nat.{ℕ, ◌+◌}
use lib.ListN.{length}
use denote.MutBor.{at_last}
use Rattle.words.specs.Words.{fits_at, placed}
use Rattle.words.proofs.Laws.{placed_not}
use Rattle.stream.specs.Output.{Put, place_after, page_after}
use Rattle.stream.specs.declared.output.Page.{Page}

-- the first attempt, at the place that the page is written up to
module _ (page : Page) (text : List ℕ) {paper : List ℕ} {ok : Bool} (fit : ok ≡ fits_at page.bytes.now page.at (length text)) (put : paper ≡ placed page.bytes.now page.at text) where
  pub put_here : ok ≡ true → Put text page (record { bytes = at_last page.bytes paper; at = page.at + length text })
  unfolding place_after page_after
  put_here fits = let here = sym fit ∙ fits in record { place = sym (rw here); paper = ap (at_last page.bytes) (put ∙ sym (rw here)) }

  -- the second, at the start
  module _ (no : ok ≡ false) (left : Page) (kept : left.bytes ≡ at_last page.bytes paper)
      {paper₂ : List ℕ} {ok₂ : Bool} (fit₂ : ok₂ ≡ fits_at left.bytes.now 0 (length text)) (put₂ : paper₂ ≡ placed left.bytes.now 0 text) where
    as_before : left.bytes ≡ page.bytes
    as_before = kept ∙ ap (at_last page.bytes) (put ∙ placed_not page.bytes.now page.at text (sym fit ∙ no))

    pub put_over : ok₂ ≡ true → Put text page (record { bytes = at_last left.bytes paper₂; at = length text })
    unfolding place_after page_after
    put_over fits =
        let here = sym fit ∙ no in
        let over = rw as_before at (sym fit₂ ∙ fits) in
        record { place = rw (here, over); paper = rw (put₂, as_before, here) }

    pub put_out : ok₂ ≡ false → Put text page (record { bytes = at_last left.bytes paper₂; at = 0 })
    unfolding place_after page_after
    put_out none =
        let here = sym fit ∙ no in
        let over = rw as_before at (sym fit₂ ∙ none) in
        record { place = rw (here, over); paper = rw (put₂, as_before, here) }
