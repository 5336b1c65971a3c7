-- What reads find in a room. What a refilled room holds is the system's affair: these definitions say what is made of it. Definitions only.
use Rattle.std.specs.Prelude.{ℕ, zero, suc, ◌+◌, ◌*◌, ◌≤◌, ◌<◌, ◌≡◌, Bool, true, false, cond, List, [], ◌∷◌, ◌++◌, leb, ltb, eqb, Float, length, drop, Option, Some, None, Result, Ok, Err}
use Rattle.std.specs.Float.{binary64}
use Rattle.std.specs.Float.Ieee.{of_bits}
use Rattle.std.specs.Borrow.{MutBor}
use Rattle.words.specs.Words.{word_at}
use Rattle.stream.specs.declared.input.Reader.{Reader}
use Rattle.stream.specs.declared.input.Over.{Over}

-- the word at a place, or bytes that make none
unfoldable pub held : (room : List ℕ) (at end : ℕ) → Result ℕ Over
held room at end = cond (leb (at + 8) end) (Ok (word_at room at)) (Err Over.Short)

-- and the place after it, or after all that is left
unfoldable pub after : (at end : ℕ) → ℕ
after at end = cond (leb (at + 8) end) (at + 8) end

-- what n bytes that came make
unfoldable pub came : List ℕ → ℕ → Result ℕ Over
came room n = cond (eqb n 0) (Err Over.End) (held room 0 n)

-- the same lent bytes, as many as before
pub record Same (lent lent' : MutBor (List ℕ)) : Type 0 where
  pub lies : lent'.ref_ptr ≡ lent.ref_ptr
  pub name : lent'.ghost_name ≡ lent.ghost_name
  pub long : length lent'.now ≡ length lent.now

-- nothing is in a lent room yet
pub record Begun (lent : MutBor (List ℕ)) (i : Reader) : Type 0 where
  pub kept : i.room ≡ lent
  pub place : i.at ≡ 0
  pub last : i.end ≡ 0

-- a read that leaves the room as it is
pub record Found (i i' : Reader) (w : Result ℕ Over) : Type 0 where
  pub kept : i'.room ≡ i.room
  pub found : w ≡ held i.room.now i.at i.end
  pub place : i'.at ≡ after i.at i.end
  pub last : i'.end ≡ i.end

-- a room was filled anew, with nothing at the end
pub record Refilled (i i' : Reader) (r : Result (Unit {0}) Over) : Type 0 where
  pub same : Same i.room i'.room
  pub place : i'.at ≡ 0
  pub within : i'.end ≤ length i.room.now
  pub some : r ≡ cond (eqb i'.end 0) (Err Over.End) (Ok tt)

-- a read that fills the room anew
pub record Came (i i' : Reader) (w : Result ℕ Over) : Type 0 where
  pub same : Same i.room i'.room
  pub within : i'.end ≤ length i.room.now
  pub found : w ≡ came i'.room.now i'.end
  pub place : i'.at ≡ after 0 i'.end

unfoldable pub next_by : Bool → (i i' : Reader) → Result ℕ Over → Type 0
next_by true i i' w = Found i i' w
next_by false i i' w = Came i i' w

-- a word was read: from the room, while it has bytes to read, and then from the room filled anew
unfoldable pub Next : (i i' : Reader) → Result ℕ Over → Type 0
unfolding next_by
Next i i' w = next_by (ltb i.at i.end) i i' w

-- a word as a number
unfoldable pub number_of : Result ℕ Over → Option Float
number_of (Ok bits) = Some (of_bits binary64 bits)
number_of (Err e) = None

-- a number was read
pub record NextNumber (i i' : Reader) (x : Option Float) : Type 0 where
  pub word : Result ℕ Over
  pub next : Next i i' word
  pub number : x ≡ number_of word

-- the first k numbers from index `at` on
unfoldable pub numbers_at : List ℕ → ℕ → ℕ → List Float
numbers_at room at zero = []
numbers_at room at (suc k) = numbers_at room at k ++ (of_bits binary64 (word_at room (at + 8 * k)) ∷ [])

-- a list of numbers was read from a room that holds them all
pub record Whole (i : Reader) (out : List Float) (count : ℕ) (i' : Reader) (out' : List Float) (r : Option (Unit {0})) : Type 0 where
  pub kept : i'.room ≡ i.room
  pub read : out' ≡ numbers_at i.room.now i.at count ++ drop count out
  pub place : i'.at ≡ i.at + 8 * count
  pub last : i'.end ≡ i.end
  pub all : r ≡ Some tt

-- nothing was read, for want of a place to put it
pub record Refused (i : Reader) (out : List Float) (i' : Reader) (out' : List Float) (r : Option (Unit {0})) : Type 0 where
  pub kept : i' ≡ i
  pub left : out' ≡ out
  pub refused : r ≡ None

-- a list of numbers was read to the front of another
pub record Fills (i : Reader) (out : List Float) (count : ℕ) (i' : Reader) (out' : List Float) (r : Option (Unit {0})) : Type 0 where
  pub same : Same i.room i'.room
  pub rest : drop count out' ≡ drop count out
  pub too_long : length out < count → Refused i out i' out' r
  pub whole : count ≤ length out → i.at + 8 * count ≤ i.end → Whole i out count i' out' r
