-- What all calls share: refusals, sizes, and what a call leaves. Definitions only.
use Rattle.std.specs.Prelude.{◌≡◌, Bool, true, cond, ◌&&◌, ◌||◌, List, [], ◌∷◌, Result, Ok, Err, ℕ, ◌+◌, ◌*◌, ◌≤◌, eqb, leb, length, Float}
use Rattle.vectors.specs.Vector.{zeros}
use Rattle.vectors.specs.declared.refusal.Refusal.{Refusal}
use Rattle.vectors.specs.declared.refusal.Refusal.TheVariants.{Size, Setting, Turn, Entry, Radius, Pivot, Root, Range, Hidden}

-- the numbers of document 01's table; 9 is request Five's
abbrev pub number : Refusal → ℕ
number Size = 1
number Setting = 2
number Turn = 3
number Entry = 4
number Radius = 5
number Pivot = 6
number Root = 7
number Range = 8
number Hidden = 9

-- a call's answer: why it is refused, or what it gives
pub data Answer (A : Type 0) : Type 0 where
  refused : Refusal → Answer A
  given : A → Answer A

-- a refusal, and whether it applies: `Size if b`
pub record Check : Type 0 where
  pub refusal : Refusal
  pub applies : Bool

abbrev pub ◌if◌ : Refusal → Bool → Check
r if b = record { refusal = r; applies = b }

infix 20 ◌if◌
-- The first check that applies refuses; if none does, the answer is a.
abbrev pub unless : {A : Type 0} → List Check → Answer A → Answer A
unless [] a = a
unless (c ∷ cs) a = cond c.applies (refused c.refusal) (unless cs a)

-- what a list of checks comes to in the code, which gives nothing there
abbrev pub judged : List Check → Result (Unit {0}) Refusal
judged [] = Ok tt
judged (c ∷ cs) = cond c.applies (Err c.refusal) (judged cs)

-- one check, by what is to be right
abbrev pub checked : Refusal → Bool → Result (Unit {0}) Refusal
checked r right = cond right (Ok tt) (Err r)

-- what follows an answer; a refusal stands
abbrev pub then : {A B : Type 0} → (A → Answer B) → Answer A → Answer B
then f (refused r) = refused r
then f (given a) = f a

-- every condition of a list
abbrev pub all_hold : List Bool → Bool
all_hold [] = true
all_hold (b ∷ bs) = b && all_hold bs

-- ---- sizes

-- n is 1 to 64
unfoldable pub size : ℕ → Bool
size n = leb 1 n && leb n 64

-- v has k numbers
abbrev pub sized : ℕ → List Float → Bool
sized k v = eqb (length v) k

-- how many numbers a scratch has
abbrev pub room : ℕ → ℕ
room n = 2 * (n * n) + 8 * n

-- as facts: len is the length of an n·n matrix, or of a scratch
pub record Square (n len : ℕ) : Type 0 where
  pub low : 1 ≤ n
  pub high : n ≤ 64
  pub long : len ≡ n * n

pub record Roomy (n len : ℕ) : Type 0 where
  pub high : n ≤ 64
  pub long : len ≡ room n

-- ---- what a call leaves

-- in a thing that it may change: what the answer gives for it, and after a refusal what was there
abbrev pub left_in : {A B : Type 0} → (A → B) → Answer A → B → B
left_in new (refused r) old = old
left_in new (given a) old = new a

-- "Scratch is untouched by 1 to 5"; "9, .. scratch untouched"
abbrev pub untouched_by : Refusal → Bool
untouched_by r = leb (number r) 5 || eqb (number r) 9

-- in the scratch; "after any other call, refused or not, it holds +0 throughout"
abbrev pub scratch_after : {A : Type 0} → Answer A → List Float → List Float
scratch_after (refused r) old = cond (untouched_by r) old (zeros (length old))
scratch_after (given a) old = zeros (length old)

-- the answer that a call's word stands for, where it left a
abbrev pub stands_for : {A : Type 0} → Result (Unit {0}) Refusal → A → Answer A
stands_for (Ok x) a = given a
stands_for (Err r) a = refused r

-- what a call leaves that writes one vector
pub record Wrote (answer : Answer (List Float)) (r : Result (Unit {0}) Refusal) (out out' : List Float) : Type 0 where
  pub says : stands_for r out' ≡ answer
  pub leaves : out' ≡ left_in (λ v. v) answer out

-- and one that is lent a scratch besides
pub record Ended (answer : Answer (List Float)) (r : Result (Unit {0}) Refusal) (out out' scratch scratch' : List Float) : Type 0 where
  pub wrote : Wrote answer r out out'
  pub clears : scratch' ≡ scratch_after answer scratch
