-- What the words of a call tell. Assumes nothing.
use mathlib.Core.Path.{◌≡◌, refl, sym}
use mathlib.Core.Bool.{Bool, true, false, cond}
use mathlib.Core.List.{List}
use Prim.Native.Nat.{ℕ, ◌≤◌}
use native.Mathlib.Omega.{arith}
use lib.Dec.{ltb, eqb}
use lib.ListN.{length}
use borrow.Author.Tests.{ltb-false, eqb-true, eqb-false, ne_eqb, le-ltb}
use Rattle.vectors.proofs.Sizes.{square_small}
use Rattle.script.specs.declared.Kind.{Kind}
use Rattle.script.specs.declared.Kind.TheVariants.{TrustRegion, Sr1}
use Rattle.script.specs.Places.{word}
use Rattle.script.specs.Call.{cost_words, derivative_words, call_words, wants, is_whole}

-- by its first word
pub wants_at : (k : Kind) (n : ℕ) (words : List ℕ) (first : ℕ) → (length words ≡ 0 → ⊥) → n ≤ 64 → word words 0 ≡ first → call_words k n first ≡ wants k n words
unfolding wants
wants_at k n words first some small e = rw (ne_eqb _ _ some, le-ltb _ _ small, e)

-- a whole call is one of a session's n
small_by : (a b : Bool) (len w : ℕ) → (a ≡ true → len ≡ 0) → (a ≡ false → len ≡ 0 → ⊥) → cond a 1 (cond b 0 w) ≡ len → b ≡ false
small_by true b len w none some e = let no : ⊥ = omega (arith, none refl, e) in absurd no
small_by false true len w none some e = absurd (some refl (sym e))
small_by false false len w none some e = refl

pub whole_small : (k : Kind) (n : ℕ) (words : List ℕ) → is_whole k n words ≡ true → n ≤ 64
unfolding wants
whole_small k n words e =
    ltb-false 64 n
    (small_by (eqb (length words) 0) (ltb 64 n) (length words) (call_words k n (word words 0)) (eqb-true (length words) 0) (eqb-false (length words) 0) (eqb-true (wants k n words) (length words) e))

-- no call has more words than this
cost_small : (k : Kind) (n : ℕ) → n ≤ 64 → cost_words k n ≤ 4239
cost_small TrustRegion n h = omega (arith, h)
cost_small Sr1 n h = omega (arith, h)

derivatives_small : (k : Kind) (n : ℕ) → n ≤ 64 → derivative_words k n ≤ 4239
derivatives_small TrustRegion n h = omega (arith, h, square_small n h)
derivatives_small Sr1 n h = omega arith

few_by : (a big b c d e f : Bool) (x y : ℕ) → (big ≡ false → x ≤ 4239) → (big ≡ false → y ≤ 4239)
    → cond a 1 (cond big 0 (cond b 2 (cond c x (cond d y (cond e 6 (cond f 2 0)))))) ≤ 4239
few_by true big b c d e f x y p q = omega arith
few_by false true b c d e f x y p q = omega arith
few_by false false true c d e f x y p q = omega arith
few_by false false false true d e f x y p q = p refl
few_by false false false false true e f x y p q = q refl
few_by false false false false false true f x y p q = omega arith
few_by false false false false false false true x y p q = omega arith
few_by false false false false false false false x y p q = omega arith

pub wants_small : (k : Kind) (n : ℕ) (words : List ℕ) → wants k n words ≤ 4239
unfolding wants
wants_small k n words =
    let first = word words 0 in
    few_by (eqb (length words) 0) (ltb 64 n) (eqb first 1) (eqb first 2) (eqb first 3) (eqb first 4) (eqb first 5) (cost_words k n) (derivative_words k n)
    (λ e. cost_small k n (ltb-false 64 n e)) (λ e. derivatives_small k n (ltb-false 64 n e))
