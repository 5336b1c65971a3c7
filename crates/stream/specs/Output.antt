-- What puts leave on a page, whose length never changes. Definitions only.
use Rattle.std.specs.Prelude.{ℕ, ◌+◌, ◌≡◌, cond, List, length}
use Rattle.std.specs.Borrow.{MutBor}
use denote.MutBor.{at_last}
use Rattle.words.specs.Words.{fits_at, placed}
use Rattle.io.specs.Digits.{last_digits, IsDigitCount}
use Rattle.stream.specs.declared.output.Page.{Page}

-- how far the page is written after a text: past the text, where it stands at index `at` or at the start, and not at all where it is longer than the page
unfoldable pub place_after : List ℕ → ℕ → List ℕ → ℕ
place_after page at text =
    cond (fits_at page at (length text)) (at + length text) (cond (fits_at page 0 (length text)) (length text) 0)

unfoldable pub page_after : List ℕ → ℕ → List ℕ → List ℕ
page_after page at text = cond (fits_at page at (length text)) (placed page at text) (placed page 0 text)

-- an empty page on lent bytes
pub record Top (lent : MutBor (List ℕ)) (page : Page) : Type 0 where
  pub place : page.at ≡ 0
  pub paper : page.bytes ≡ lent

-- what was on a page has left, and its bytes stay as they are
pub record Left (page page' : Page) : Type 0 where
  pub place : page'.at ≡ 0
  pub paper : page'.bytes ≡ page.bytes

-- a text was put on a page, whose bytes lie where they lay
pub record Put (text : List ℕ) (page page' : Page) : Type 0 where
  pub place : page'.at ≡ place_after page.bytes.now page.at text
  pub paper : page'.bytes ≡ at_last page.bytes (page_after page.bytes.now page.at text)

-- the same with a whole number's decimal digits, of which there are k
pub record PutWhole (n : ℕ) (page page' : Page) : Type 0 where
  pub k : ℕ
  pub fewest : IsDigitCount 10 1 n k
  pub put : Put (last_digits 10 k n) page page'
