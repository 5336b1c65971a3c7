-- What is told of a text, and the steps of the loops that make digits. Assumes nothing.
use mathlib.Core.Path.{◌≡◌, refl, ◌∙◌}
use mathlib.Core.Bool.{Bool, true, false, cond}
use mathlib.Core.List.{List}
use Prim.Native.Nat.{ℕ, zero, suc, ◌+◌, ◌/◌, ◌^◌, ◌≤◌}
use native.Mathlib.Nat.{pow-suc, div-div-eq-div-mul}
use native.Mathlib.Numerals.{add-one}
use native.Mathlib.Omega.{arith}
use borrow.Author.Tests.{leb-true}
use lib.Dec.{leb}
use lib.ListN.{length, length-append}
use Rattle.words.specs.Words.{placed}
use Rattle.words.proofs.Laws.{length_placed}
use Rattle.decimal.specs.Text.{digits, told}

-- what a test's two answers have
pub by_test : {A : Type 0} (P : A → Type 0) (b : Bool) {x y : A} → (b ≡ true → P x) → (b ≡ false → P y) → P (cond b x y)
by_test P true f g = f refl
by_test P false f g = g refl

-- as much is there as is told
pub told_within : (bytes text : List ℕ) → told bytes text ≤ length (placed bytes 0 text)
unfolding told
told_within bytes text =
    rw length_placed
    (by_test (λ (n : ℕ). n ≤ length bytes) (leb (0 + length text) (length bytes)) (λ e. omega (arith, leb-true (0 + length text) (length bytes) e)) (λ e. omega arith))

-- ---- digits

pub length_digits : (count number : ℕ) → length (digits count number) ≡ count
unfolding digits
length_digits zero number = refl
length_digits (suc count) number = length-append (digits count (number / 10)) _ ∙ rw (length_digits count (number / 10), add-one count)

-- one digit less
pub without_more : (number places : ℕ) → number / 10 ^ places / 10 ≡ number / 10 ^ (places + 1)
without_more number places = rw (add-one places, pow-suc 10 places) (div-div-eq-div-mul number (10 ^ places) 10)
