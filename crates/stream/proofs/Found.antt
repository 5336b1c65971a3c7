-- What a read finds, from what the room had and what the system gave. Assumes nothing.
use Rattle.std.proofs.Common.{◌≡◌, ℕ, zero, suc, ◌+◌, ◌<◌, ◌≤◌, Bool, true, false, cond, Result, Ok, Err, Option, Some, None, length, refl, sym, ap, ◌∙◌, eqb, lt-ltb, le-ltb, ltb, leb, le-leb, List, arith}
use Rattle.std.proofs.lemmas.Bool.{lt-leb}
use borrow.Author.Tests.{ne_eqb, leb-true}
use Rattle.std.specs.Float.{binary64}
use Rattle.std.specs.Float.Ieee.{of_bits}
use Rattle.std.specs.Option.{MatchOption, IsSomeAnd}
use Rattle.std.specs.Result.{result_ok}
use Rattle.std.specs.Borrow.{MutBor}
use lib.Ieee.{Float}
use Rattle.words.specs.Words.{word_at}
use Rattle.stream.specs.Input.{held, after, came, Same, Found, Refilled, next_by, Next, number_of}
use Rattle.stream.specs.declared.input.Reader.{Reader}
use Rattle.stream.specs.declared.input.Over.{Over}
use Rattle.stream.specs.declared.input.Over.TheVariants.{End, Short}

-- ---- a word that is there, and one that is not

module _ (room : List ℕ) (at end : ℕ) where
  pub held_there : at + 8 ≤ end → held room at end ≡ Ok (word_at room at)
  unfolding held
  held_there h = rw (le-leb (at + 8) end h)

  pub held_not : end < at + 8 → held room at end ≡ Err Short
  unfolding held
  held_not h = rw (lt-leb (at + 8) end h)

  pub there : {w : ℕ} → Ok w ≡ held room at end → (at + 8 ≤ end) × (after at end ≡ at + 8)
  unfolding held after
  there e = by_test refl e where
    by_test : {b : Bool} {w : ℕ} → leb (at + 8) end ≡ b → Ok w ≡ cond b (Ok (word_at room at)) (Err Short) → (at + 8 ≤ end) × (cond (leb (at + 8) end) (at + 8) end ≡ at + 8)
    by_test {b = true} t e = (leb-true (at + 8) end t, rw t)
    by_test {b = false} t e = let no : ◌≡◌ {A = ℕ} 0 1 = cc in absurd (omega arith)

  pub not_there : {d : Over} → Err d ≡ held room at end → (Err Short ≡ held room at end) × (after at end ≡ end)
  unfolding held after
  not_there e = by_test refl e where
    by_test : {b : Bool} {d : Over} → leb (at + 8) end ≡ b → Err d ≡ cond b (Ok (word_at room at)) (Err Short)
        → (Err Short ≡ cond (leb (at + 8) end) (Ok (word_at room at)) (Err Short)) × (cond (leb (at + 8) end) (at + 8) end ≡ end)
    by_test {b = true} t e = let no : ◌≡◌ {A = ℕ} 0 1 = cc in absurd (omega arith)
    by_test {b = false} t e = (rw t, rw t)

-- ---- a word in the room, or else in the room filled anew

-- what a refill says of the bytes that came
refill : ℕ → Result (Unit {0}) Over
refill n = cond (eqb n 0) (Err End) (Ok tt)

some_came : (n : ℕ) → Ok tt ≡ refill n → eqb n 0 ≡ false
unfolding refill
some_came zero e = cc
some_came (suc n) e = ne_eqb (suc n) 0 (omega arith)

none_came : (n : ℕ) (e : Over) → Err e ≡ refill n → (n ≡ 0) × (e ≡ End)
unfolding refill
none_came zero d e = (refl, cc)
none_came (suc n) d e = let not_so : Err d ≡ Ok tt = rw (ne_eqb (suc n) 0 (omega arith)) at e in let no : ◌≡◌ {A = ℕ} 0 1 = cc in absurd (omega arith)

module _ {i i' : Reader} {w : Result ℕ Over} where
  pub next_found : i.at < i.end → Found i i' w → Next i i' w
  unfolding Next next_by
  next_found more found = rw (lt-ltb i.at i.end more) found

  pub next_came : i.end ≤ i.at → {s : Reader} → Refilled i s (Ok tt) → Found s i' w → Next i i' w
  unfolding Next next_by came refill
  next_came none {s} r f =
      let fresh : w ≡ held i'.room.now 0 i'.end = f.found ∙ rw (r.place, f.kept, f.last) in
      let place : i'.at ≡ after 0 i'.end = f.place ∙ rw (r.place, f.last) in
      let some : eqb i'.end 0 ≡ false = rw f.last (some_came s.end r.some) in
      rw (le-ltb i.at i.end none) (record {
        same = rw f.kept r.same;
        within = rw f.last r.within;
        found = fresh ∙ sym (rw some);
        place = place;
      })

pub next_none : {i i' : Reader} {e : Over} → i.end ≤ i.at → Refilled i i' (Err e) → Next i i' (Err e)
unfolding Next next_by came after refill
next_none {i} {i'} {e} none r =
    let n = none_came i'.end e r.some in
    rw (le-ltb i.at i.end none) (record {
      same = r.same;
      within = r.within;
      found = rw (n.0, n.1);
      place = r.place ∙ rw n.0;
    })

-- ---- what both leave

pub same : {a b : MutBor (List ℕ)} → b ≡ a → Same a b
same e = record { lies = ap (λ (b : MutBor (List ℕ)). b.ref_ptr) e; name = ap (λ (b : MutBor (List ℕ)). b.ghost_name) e; long = ap (λ (b : MutBor (List ℕ)). length b.now) e }

pub same_still : {a b c : MutBor (List ℕ)} → Same a b → Same b c → Same a c
same_still p q = record { lies = q.lies ∙ p.lies; name = q.name ∙ p.name; long = q.long ∙ p.long }

pub next_same : (i i' : Reader) (w : Result ℕ Over) → Next i i' w → Same i.room i'.room
unfolding Next next_by
next_same i i' w next = by_test (ltb i.at i.end) next where
  by_test : (b : Bool) → next_by b i i' w → Same i.room i'.room
  by_test true n = same n.kept
  by_test false n = n.same

-- ---- a word as a number

pub number_is : (w : Result ℕ Over) (o : Option ℕ) (x : Option Float) → o ≡ result_ok w
    → MatchOption o (x ≡ None) (λ n. IsSomeAnd x (λ y. y ≡ of_bits binary64 n)) → x ≡ number_of w
unfolding number_of
number_is (Ok n) o (Some y) e m = let is = rw e at m in ap Some is
number_is (Ok n) o None e m = let no = rw e at m in absurd no
number_is (Err d) o x e m = rw e at m
