-- What the words of a start tell of each other. Assumes nothing.
use mathlib.Core.Path.{◌≡◌, refl}
use mathlib.Core.Bool.{Bool, true, false, cond, not, ◌&&◌}
use mathlib.Core.List.{List}
use Rattle.std.specs.Prelude.{Some, None}
use Prim.Native.Nat.{ℕ, ◌+◌, ◌≤◌, ◌<◌}
use native.Mathlib.Omega.{arith}
use lib.Dec.{ltb, leb}
use lib.ListN.{length}
use lib.Ieee.{Float}
use borrow.Author.Tests.{ltb-true, ltb-false, eqb-true}
use Rattle.vectors.specs.Refusal.{size}
use Rattle.vectors.proofs.Sizes.{both, size_true, square_small}
use Rattle.script.specs.declared.Kind.{Kind}
use Rattle.script.specs.declared.Kind.TheVariants.{TrustRegion, Sr1}
use Rattle.script.specs.declared.start.Start.{Start}
use Rattle.script.specs.Places.{word}
use Rattle.script.specs.Start.{kind_of, size_of, tells_more, by_kind, begins, limit_at, head, further, known, whole, wants, opening, is_whole, start_of, Lists, Decoded}

known_small : (k : Kind) → by_kind 2 3 k ≤ 3
known_small TrustRegion = omega arith
known_small Sr1 = omega arith

-- past its tests `wants` tells all
pick : (a b c d : Bool) (len h w : ℕ) → (a ≡ true → len < 2) → (a ≡ false → 2 ≤ len) → (c ≡ true → len < h)
    → cond a 2 (cond (not b) 0 (cond c h (cond d 0 w))) ≡ len → (b ≡ true) × (d ≡ false) × (w ≡ len)
pick true b c d len h w short long cut e = let no : ⊥ = omega (arith, short refl, e) in absurd no
pick false false c d len h w short long cut e = let no : ⊥ = omega (arith, long refl, e) in absurd no
pick false true true d len h w short long cut e = let no : ⊥ = omega (arith, cut refl, e) in absurd no
pick false true false true len h w short long cut e = let no : ⊥ = omega (arith, long refl, e) in absurd no
pick false true false false len h w short long cut e = (refl, refl, e)

-- what holds of the words of a whole start
pub record Whole (words : List ℕ) : Type 0 where
  pub begun : begins words ≡ true
  pub low : 1 ≤ size_of words
  pub high : size_of words ≤ 64
  pub told : further words ≤ known words
  pub few : further words ≤ 3
  pub long : whole (head words) (further words) (size_of words) ≡ length words

pub begins_small : (words : List ℕ) → begins words ≡ true → (1 ≤ size_of words) × (size_of words ≤ 64)
unfolding begins
begins_small words e = size_true (size_of words) (both (leb 1 (word words 0) && leb (word words 0) 4) (size (size_of words)) e).1

pub whole_start : (words : List ℕ) → is_whole words ≡ true → Whole words
unfolding wants
whole_start words e =
    let n = length words in
    let p =
    pick (ltb n 2) (begins words) (ltb n (head words)) (ltb (known words) (further words)) n (head words) (whole (head words) (further words) (size_of words))
    (ltb-true n 2) (ltb-false n 2) (ltb-true n (head words)) (eqb-true (wants words) n e) in
    let s = begins_small words p.0 in
    let t = ltb-false (known words) (further words) p.1 in
    record { begun = p.0; low = s.0; high = s.1; told = t; few = omega (arith, t, known_small (kind_of words)); long = p.2 }

-- no start has more words than this
limit_small : (k : Kind) → by_kind 7 8 k ≤ 8
limit_small TrustRegion = omega arith
limit_small Sr1 = omega arith

head_by : (t : Bool) (l : ℕ) → l ≤ 8 → cond t (l + 2) (l + 1) ≤ 10
head_by true l h = omega (arith, h)
head_by false l h = omega (arith, h)

pub head_small : (words : List ℕ) → head words ≤ 10
head_small words = head_by (tells_more words) (limit_at words) (limit_small (kind_of words))

small_by : (a b c d : Bool) (h w : ℕ) → h ≤ 10 → (b ≡ true → d ≡ false → w ≤ 4239) → cond a 2 (cond (not b) 0 (cond c h (cond d 0 w))) ≤ 4239
small_by true b c d h w p q = omega arith
small_by false false c d h w p q = omega arith
small_by false true true d h w p q = omega (arith, p)
small_by false true false true h w p q = omega arith
small_by false true false false h w p q = q refl refl

pub wants_small : (words : List ℕ) → wants words ≤ 4239
unfolding wants
wants_small words =
    small_by (ltb (length words) 2) (begins words) (ltb (length words) (head words)) (ltb (known words) (further words)) (head words) (whole (head words) (further words) (size_of words)) (head_small words)
    (λ e f.
    let n = (begins_small words e).1 in
    omega (arith, head_small words, known_small (kind_of words), ltb-false (known words) (further words) f, n, square_small (size_of words) n))

-- the two ends of decoding
module _ (words : List ℕ) {point gradient hessian : List Float} where
  pub decoded_odd : is_whole words ≡ false → Decoded words None point point gradient gradient hessian hessian
  unfolding start_of
  decoded_odd e = record { says = rw e; leaves = rw e (record { point_kept = refl; gradient_kept = refl; hessian_kept = refl }) }

  pub decoded_whole : {point' gradient' hessian' : List Float} (r : Start) → is_whole words ≡ true → r ≡ opening words (kind_of words) → Lists words point point' gradient gradient' hessian hessian'
      → Decoded words (Some r) point point' gradient gradient' hessian hessian'
  unfolding start_of
  decoded_whole r e f l = record { says = rw (e, f); leaves = rw e l }
