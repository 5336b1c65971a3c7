-- How the words of a script are read. Which words the system gives is its own affair: these definitions say what is made of them. Definitions only.
use Rattle.std.specs.Prelude.{◌≡◌, ℕ, suc, ◌+◌, ◌≤◌, List, [], ◌∷◌, ◌++◌, length, take, Bool, false, ◌==◌, Option, Some, None, Result, Ok, Err}
use Rattle.stream.specs.Input.{Next}
use Rattle.stream.specs.declared.input.Reader.{Reader}
use Rattle.stream.specs.declared.input.Over.{Over}
use Rattle.stream.specs.declared.input.Over.TheVariants as over
use Rattle.script.specs.Start as Start
use Rattle.script.specs.Call as Call
use Rattle.fit.specs.declared.reading.Reading.{Reading}
use Rattle.fit.specs.declared.reading.Part.{Part}
use Rattle.fit.specs.declared.reading.Part.TheVariants as part
use Rattle.fit.specs.declared.reading.Held.{Held}

-- words came from standard input, one after another
pub data Reads (i : Reader) : List ℕ → Reader → Type 0 where
  none : Reads i [] i
  more : {words : List ℕ} {i₁ i₂ : Reader} (w : ℕ) → Reads i words i₁ → Next i₁ i₂ (Ok w) → Reads i (words ++ (w ∷ [])) i₂

-- a script's words were read, and so many fewer are left
pub record Read (s : Reading) (words : List ℕ) (s' : Reading) : Type 0 where
  pub reads : Reads s.input words s'.input
  pub fewer : s.left ≡ length words + s'.left

-- A script ends where it has no more words, or standard input has none; bytes that make no word are an end too.
pub data Ends (s : Reading) : Over → Reading → Type 0 where
  limit : s.left ≡ 0 → Ends s over.End s
  input : {e : Over} {s' : Reading} → Next s.input s'.input (Err e) → s'.left ≡ 0 → Ends s e s'

-- a script's words were read, and then it ended
pub record All (s : Reading) (words : List ℕ) (e : Over) (s' : Reading) : Type 0 where
  pub then : Reading
  pub read : Read s words then
  pub ended : Ends then e s'

-- words were read, and the script goes on, or ended there
abbrev pub Came_to : Option Over → (s : Reading) → (words : List ℕ) → (s' : Reading) → Type 0
Came_to None s words s' = Read s words s'
Came_to (Some e) s words s' = All s words e s'

-- the next word, or the end
abbrev pub Comes : (s s' : Reading) → Result ℕ Over → Type 0
Comes s s' (Ok w) = Next s.input s'.input (Ok w) × (s.left ≡ suc s'.left)
Comes s s' (Err e) = Ends s e s'

-- words up to a count, behind those that are there; fewer where the script ends
pub record Fills (words : List ℕ) (have want : ℕ) (s s' : Reading) (r : Held) (words' : List ℕ) : Type 0 where
  pub new : List ℕ
  pub front : take r.count words' ≡ take have words ++ new
  pub long : r.count ≡ have + length new
  pub within : r.count ≤ want
  pub full : r.ending ≡ None → r.count ≡ want
  pub comes : Came_to r.ending s new s'

-- how many words a start or a call has, as far as those that are there tell it
abbrev pub wants : Part → (words : List ℕ) → ℕ
wants part.Start words = Start.wants words
wants (part.Call k n) words = Call.wants k n words

-- none more where the script has ended
abbrev pub wants_more : Option Over → (wanted : ℕ) → ℕ
wants_more None wanted = wanted
wants_more (Some e) wanted = 0

-- the script ended, and no word of a call came before that
abbrev pub is_end : Option Over → (count : ℕ) → Bool
is_end (Some over.End) count = count == 0
is_end (Some over.Short) count = false
is_end None count = false

-- the words of a part were read: all that it has, where the script goes on, unless one of them may not stand there
pub record Holds (p : Part) (s s' : Reading) (r : Held) (words' : List ℕ) : Type 0 where
  pub within : r.count ≤ length words'
  pub comes : Came_to r.ending s (take r.count words') s'
  pub enough : wants_more r.ending (wants p (take r.count words')) ≤ r.count

-- what is left of a script was read past
pub record Skips (s s' : Reading) : Type 0 where
  pub words : List ℕ
  pub how : Over
  pub all : All s words how s'
  pub nothing_left : s'.left ≡ 0
