-- Numbers in columns, and the lines of a point. Assumes nothing.
use Rattle.std.proofs.Common.{◌≡◌, ℕ, zero, suc, ◌+◌, ◌-◌, ◌<◌, ◌≤◌, List, [], ◌∷◌, ◌++◌, length, get_or, take, drop, refl, ap, ◌∙◌, zero-add, add-one, arith, take-suc, le-leb}
use native.Mathlib.Nat.{sub-zero, zero-sub, suc-sub-suc}
use lib.Ieee.{Float, nan, binary64, to_bits}
use Rattle.words.specs.Words.{placed}
use Rattle.words.proofs.Laws.{length_placed, placed_here}
use Rattle.decimal.specs.Text.{told}
use Rattle.decimal.proofs.Short.{short}
use Rattle.stream.specs.declared.output.Page.{Page}
use Rattle.stream.specs.Pieces.{Piece, Puts}
use Rattle.stream.proofs.Pieces.{puts_append}
use Rattle.report.specs.Table.{blanks, padded, decimal_of, number_line, number_lines}

-- ---- blanks

drop_blanks : (k n : ℕ) → drop k (blanks n) ≡ blanks (n - k)
drop_blanks zero n = rw sub-zero
drop_blanks (suc k) zero = rw zero-sub
drop_blanks (suc k) (suc n) = rw suc-sub-suc (drop_blanks k n)

-- ---- numbers in decimal, none of which is longer than 24 bytes

-- written over blanks
pub in_column : (x : Float) → placed (blanks 24) 0 (decimal_of x) ≡ padded 24 (decimal_of x)
unfolding placed
in_column x = rw (le-leb (0 + length (decimal_of x)) 24 (omega (arith, short (to_bits binary64 x))), drop_blanks, zero-add)

-- written to the front of n bytes, as far as is told
pub record Written (n : ℕ) (bytes : List ℕ) (x : Float) : Type 0 where
  pub within : n ≤ length bytes
  pub digits : take n bytes ≡ decimal_of x

pub written : {n : ℕ} {after : List ℕ} (bytes : List ℕ) (x : Float) → n ≡ told bytes (decimal_of x) → after ≡ placed bytes 0 (decimal_of x) → 24 ≤ length bytes → Written n after x
unfolding told
written {n} {after} bytes x told put room =
    let fits : 0 + length (decimal_of x) ≤ length bytes = omega (arith, short (to_bits binary64 x)) in
    let all : n ≡ length (decimal_of x) = told ∙ rw (le-leb (0 + length (decimal_of x)) (length bytes) fits) in
    record { within = rw (put, length_placed) (omega arith); digits = rw (put, all) (placed_here bytes 0 (decimal_of x) fits) }

-- ---- the lines of a point

lines_snoc : (v : List Float) (x : Float) → number_lines (v ++ (x ∷ [])) ≡ number_lines v ++ number_line x
unfolding number_lines
lines_snoc [] x = refl
lines_snoc (y ∷ v) x = ap (λ (l : List Piece). number_line y ++ l) (lines_snoc v x)

-- one number more
pub lines_more : (v : List Float) (i : ℕ) {page page₁ page₂ : Page} → i < length v → Puts (number_lines (take i v)) page page₁
    → Puts (number_line (get_or v i nan)) page₁ page₂ → Puts (number_lines (take (i + 1) v)) page page₂
lines_more v i h before line = rw (add-one i, take-suc v i nan h, lines_snoc) (puts_append before line)
