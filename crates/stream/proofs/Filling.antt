-- The loop that reads a list of numbers: what holds before each of them, and what it ends in. Assumes nothing.
use Rattle.std.proofs.Common.{◌≡◌, ℕ, zero, suc, ◌+◌, ◌*◌, ◌<◌, ◌≤◌, List, ◌++◌, Option, Some, None, length, get_or, take, drop, refl, sym, ap, ◌∙◌, add-one, arith, lt-ltb}
use mathlib.Core.List.{append-nil}
use lib.Ieee.{Float, nan, binary64, of_bits}
use lib.ListN.{set, length-append, drop_of_length-le}
use lib.Seq.{drop_at, length-take-le, drop-cons, set_at, append_snoc}
use Rattle.words.specs.Words.{word_at}
use Rattle.stream.specs.Input.{Same, Found, next_by, Next, number_of, NextNumber, numbers_at, Fills}
use Rattle.stream.specs.declared.input.Reader.{Reader}
use Rattle.stream.proofs.Found.{held_there, there, same, same_still, next_same}

-- a number that the room holds is read from there
module _ {i i' : Reader} {y : Option Float} (x : NextNumber i i' y) (fits : i.at + 8 ≤ i.end) where
  pub from_room : Found i i' x.word
  unfolding Next next_by
  from_room = rw (lt-ltb i.at i.end (omega arith)) at x.next

  pub number_held : y ≡ Some (of_bits binary64 (word_at i.room.now i.at))
  unfolding number_of
  number_held = x.number ∙ rw (from_room.found, held_there i.room.now i.at i.end fits)

  pub number_past : i'.at ≡ i.at + 8
  number_past = from_room.place ∙ (there i.room.now i.at i.end (sym (held_there i.room.now i.at i.end fits))).1

length_numbers : (room : List ℕ) (at k : ℕ) → length (numbers_at room at k) ≡ k
unfolding numbers_at
length_numbers room at zero = refl
length_numbers room at (suc k) = length-append (numbers_at room at k) _ ∙ rw (length_numbers room at k, add-one k)

-- one number more
numbers_more : (room : List ℕ) (at k : ℕ) (out : List Float) (x : Float) → k < length out → x ≡ of_bits binary64 (word_at room (at + 8 * k))
    → set (numbers_at room at k ++ drop k out) k x ≡ numbers_at room at (suc k) ++ drop (suc k) out
unfolding numbers_at
numbers_more room at k out x h e =
    rw (drop-cons out k nan h, set_at (numbers_at room at k) (get_or out k nan) (drop (suc k) out) x k (length_numbers room at k), e, append_snoc)

-- k numbers of a list have been read
pub record Filling (i₀ : Reader) (out₀ : List Float) (k : ℕ) (i : Reader) (out : List Float) : Type 0 where
  pub same : Same i₀.room i.room
  pub room : i₀.at + 8 * length out₀ ≤ i₀.end → i.room ≡ i₀.room
  pub read : i₀.at + 8 * length out₀ ≤ i₀.end → out ≡ numbers_at i₀.room.now i₀.at k ++ drop k out₀
  pub place : i₀.at + 8 * length out₀ ≤ i₀.end → i.at ≡ i₀.at + 8 * k
  pub last : i₀.at + 8 * length out₀ ≤ i₀.end → i.end ≡ i₀.end

pub filling_none : (i : Reader) (out : List Float) → Filling i out 0 i out
unfolding numbers_at
filling_none i out = record { same = same refl; room = λ h. refl; read = λ h. refl; place = λ h. omega arith; last = λ h. refl }

module _ {i₀ : Reader} {out₀ : List Float} {k : ℕ} {i : Reader} {out : List Float} (less : k < length out₀) (f : Filling i₀ out₀ k i out) where
  -- the next number is in the room too
  in_room : i₀.at + 8 * length out₀ ≤ i₀.end → i.at + 8 ≤ i.end
  in_room h = omega (arith, f.place h, f.last h)

  pub filling_more : {i' : Reader} {x : Float} → NextNumber i i' (Some x) → Filling i₀ out₀ (k + 1) i' (set out k x)
  filling_more {i'} {x} read = record {
    same = same_still f.same (next_same _ _ _ read.next);
    room = λ h. (from_room read (in_room h)).kept ∙ f.room h;
    read = λ h.
        let value : Some x ≡ Some (of_bits binary64 (word_at i.room.now i.at)) = number_held read (in_room h) in
        let room = f.room h in
        let place = f.place h in
        let here : x ≡ of_bits binary64 (word_at i₀.room.now (i₀.at + 8 * k)) = cc in
        ap (λ (l : List Float). set l k x) (f.read h) ∙ rw (add-one k) (numbers_more i₀.room.now i₀.at k out₀ x less here);
    place = λ h. let past = number_past read (in_room h) in let place = f.place h in omega arith;
    last = λ h. (from_room read (in_room h)).last ∙ f.last h;
  }

  -- no number comes only where the room does not hold them all
  pub not_all : {i' : Reader} → NextNumber i i' None → i₀.at + 8 * length out₀ ≤ i₀.end → ⊥
  not_all read h = let some = number_held read (in_room h) in let no : ◌≡◌ {A = ℕ} 0 1 = cc in omega arith

-- the front of a list was filled, or as much of it as came
module _ (i : Reader) (out : List Float) (count : ℕ) (there : count ≤ length out) where
  pub front_long : length (take count out) ≡ count
  front_long = length-take-le count out there

  rest_kept : (items : List Float) → length items ≡ length (take count out) → drop count (items ++ drop count out) ≡ drop count out
  rest_kept items long = drop_at items (drop count out) count (long ∙ front_long)

  pub fills_all : {i' : Reader} {items : List Float} → length items ≡ length (take count out) → Filling i (take count out) count i' items
      → Fills i out count i' (items ++ drop count out) (Some tt)
  fills_all {i'} {items} long f =
      let all : length (take count out) ≤ count = omega (arith, front_long) in
      let front : numbers_at i.room.now i.at count ++ drop count (take count out) ≡ numbers_at i.room.now i.at count =
      rw (drop_of_length-le (take count out) all) (append-nil (numbers_at i.room.now i.at count)) in
      record {
        same = f.same;
        rest = rest_kept items long;
        too_long = λ h. let never : ⊥ = omega arith in absurd never;
        whole = λ _ h. let g : i.at + 8 * length (take count out) ≤ i.end = rw front_long h in record {
          kept = f.room g;
          read = ap (λ (l : List Float). l ++ drop count out) (f.read g ∙ front);
          place = f.place g;
          last = f.last g;
          all = refl;
        };
      }

  pub fills_some : {k : ℕ} {i₁ i' : Reader} {items₁ : List Float} → k < length (take count out) → (items : List Float) → length items ≡ length (take count out)
      → Filling i (take count out) k i₁ items₁ → NextNumber i₁ i' None → Fills i out count i' (items ++ drop count out) None
  fills_some less items long f read =
      record {
        same = same_still f.same (next_same _ _ _ read.next);
        rest = rest_kept items long;
        too_long = λ h. let never : ⊥ = omega arith in absurd never;
        whole = λ _ h. absurd (not_all less f read (rw front_long h));
      }
