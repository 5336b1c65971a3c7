-- Words that are read one after another. Assumes nothing.
use Rattle.std.proofs.Common.{◌≡◌, ℕ, suc, ◌+◌, ◌-◌, ◌<◌, ◌≤◌, List, [], ◌∷◌, ◌++◌, Option, Some, None, Result, Ok, Err, length, take, set, sym, refl, ap, ◌∙◌, subst, add-one, arith, length-append, length-set, take-suc-set}
use mathlib.Core.List.{append_assoc, append-nil}
use Rattle.stream.specs.Input.{Same}
use Rattle.stream.specs.declared.input.Reader.{Reader}
use Rattle.stream.specs.declared.input.Over.{Over}
use Rattle.stream.specs.declared.input.Over.TheVariants as over
use Rattle.stream.proofs.Found.{same, same_still, next_same}
use Rattle.fit.specs.Reading.{Reads, none, more, Read, Ends, limit, input, All, Came_to, Comes, Fills, wants, wants_more, Holds, Skips}
use Rattle.fit.specs.declared.reading.Reading.{Reading}
use Rattle.fit.specs.declared.reading.Part.{Part}
use Rattle.fit.specs.declared.reading.Held.{Held}

reads_append : {i i₁ i₂ : Reader} {words new : List ℕ} → Reads i words i₁ → Reads i₁ new i₂ → Reads i (words ++ new) i₂
reads_append {words = words} p none = rw (append-nil words) p
reads_append {words = words} p (more {words = ws} w q n) = rw (← (append_assoc words ws (w ∷ []))) (more w (reads_append p q) n)

pub read_none : {s : Reading} → Read s [] s
read_none = record { reads = none; fewer = omega arith }

pub read_append : {s s₁ s₂ : Reading} {words new : List ℕ} → Read s words s₁ → Read s₁ new s₂ → Read s (words ++ new) s₂
read_append {words = words} {new = new} p q = record { reads = reads_append p.reads q.reads; fewer = omega (arith, p.fewer, q.fewer, length-append words new) }

-- one word more
pub read_more : {s s₁ s₂ : Reading} {words : List ℕ} (w : ℕ) → Read s words s₁ → Comes s₁ s₂ (Ok w) → Read s (words ++ (w ∷ [])) s₂
read_more {words = words} w p n = record { reads = more w p.reads n.0; fewer = omega (arith, p.fewer, n.1, length-append words (w ∷ [])) }

-- ---- the room stays the same lent bytes

reads_same : {i i' : Reader} {words : List ℕ} → Reads i words i' → Same i.room i'.room
reads_same none = same refl
reads_same (more w p n) = same_still (reads_same p) (next_same _ _ _ n)

ends_same : {s s' : Reading} {e : Over} → Ends s e s' → Same s.input.room s'.input.room
ends_same (limit h) = same refl
ends_same (input n z) = next_same _ _ _ n

pub all_same : {s s' : Reading} {words : List ℕ} {e : Over} → All s words e s' → Same s.input.room s'.input.room
all_same p = same_still (reads_same p.read.reads) (ends_same p.ended)

pub came_same : (e : Option Over) (s : Reading) (words : List ℕ) (s' : Reading) → Came_to e s words s' → Same s.input.room s'.input.room
came_same None s words s' p = reads_same p.reads
came_same (Some e) s words s' p = all_same p

-- ---- words that are read into a list for them

-- so many of the words are there, behind those that were there before
pub record Filling (words₀ : List ℕ) (have want : ℕ) (s₀ s : Reading) (words : List ℕ) (count : ℕ) : Type 0 where
  pub words_long : length words ≡ length words₀
  pub new : List ℕ
  pub front : take count words ≡ take have words₀ ++ new
  pub long : count ≡ have + length new
  pub read : Read s₀ new s

pub filling_none : {words : List ℕ} {have : ℕ} {s : Reading} (want : ℕ) → Filling words have want s s words have
filling_none {words = words} {have = have} want = record { words_long = refl; new = []; front = sym (append-nil (take have words)); long = omega arith; read = read_none }

pub filling_more : {words₀ : List ℕ} {have want : ℕ} {s₀ s s' : Reading} {words : List ℕ} {count : ℕ} (w : ℕ)
    → Filling words₀ have want s₀ s words count → count < want → want ≤ length words₀ → Comes s s' (Ok w) → Filling words₀ have want s₀ s' (set words count w) (count + 1)
filling_more {words₀ = words₀} {have = have} {words = words} {count = count} w p less fits n = record {
  words_long = length-set words count w ∙ p.words_long;
  new = p.new ++ (w ∷ []);
  front = rw (add-one count) (take-suc-set words count w (omega (arith, less, fits, p.words_long)) ∙ ap (λ (l : List ℕ). l ++ (w ∷ [])) p.front ∙ append_assoc (take have words₀) p.new (w ∷ []));
  long = omega (arith, p.long, length-append p.new (w ∷ []));
  read = read_more w p.read n;
}

pub filling_whole : {words₀ : List ℕ} {have want : ℕ} {s₀ s : Reading} {words : List ℕ} → Filling words₀ have want s₀ s words want
    → Fills words₀ have want s₀ s (record { count = want; ending = None }) words
filling_whole p = record { new = p.new; front = p.front; long = p.long; within = omega arith; full = λ e. refl; comes = p.read }

pub filling_over : {words₀ : List ℕ} {have want : ℕ} {s₀ s s' : Reading} {words : List ℕ} {count : ℕ} {e : Over}
    → Filling words₀ have want s₀ s words count → count < want → Comes s s' (Err e) → Fills words₀ have want s₀ s' (record { count = count; ending = Some e }) words
filling_over p less q = record { new = p.new; front = p.front; long = p.long; within = omega arith; full = λ e. cc; comes = record { then = _; read = p.read; ended = q } }

-- ---- the words of a part, read as long as they want more

came_append : (e : Option Over) (new : List ℕ) (s₂ : Reading) {s s₁ : Reading} {words : List ℕ} → Read s words s₁ → Came_to e s₁ new s₂ → Came_to e s (words ++ new) s₂
came_append None new s₂ p q = read_append p q
came_append (Some e) new s₂ p q = record { then = q.then; read = read_append p q.read; ended = q.ended }

-- where more are wanted the script goes on
goes_on : (e : Option Over) (want w count : ℕ) → want ≡ wants_more e w → count < want → e ≡ None
goes_on None want w count e h = refl
goes_on (Some d) want w count e h = let no : ⊥ = omega (arith, e, h) in absurd no

pub record Partly (p : Part) (words₀ : List ℕ) (s₀ s : Reading) (words : List ℕ) (held : Held) (want : ℕ) : Type 0 where
  pub words_long : length words ≡ length words₀
  pub within : held.count ≤ length words
  pub comes : Came_to held.ending s₀ (take held.count words) s
  pub wanted : want ≡ wants_more held.ending (wants p (take held.count words))
  pub small : want ≤ 4239

module _ (p : Part) {words₀ : List ℕ} {s₀ : Reading} where
  pub partly_none : {want : ℕ} → (want ≡ wants p []) × (want ≤ 4239) → Partly p words₀ s₀ s₀ words₀ (record { count = 0; ending = None }) want
  partly_none e = record { words_long = refl; within = omega arith; comes = read_none; wanted = e.0; small = e.1 }

  module _ {s : Reading} {words : List ℕ} {held : Held} {want : ℕ} (h : Partly p words₀ s₀ s words held want) (less : held.count < want) where
    was_open : held.ending ≡ None
    was_open = goes_on held.ending want (wants p (take held.count words)) held.count h.wanted less

    pub partly_more : {s' : Reading} {words' : List ℕ} {held' : Held} {want' : ℕ} → length words' ≡ length words → length words₀ ≡ 4239
        → Fills words held.count want s s' held' words'
        → (want' ≡ wants_more held'.ending (wants p (take held'.count words'))) × (want' ≤ 4239) → Partly p words₀ s₀ s' words' held' want'
    partly_more {s' = s'} {held' = held'} words-kept long f e =
        let read : Read s₀ (take held.count words) s = subst (λ (x : Option Over). Came_to x s₀ (take held.count words) s) was_open h.comes in record {
          words_long = words-kept ∙ h.words_long;
          within = omega (arith, f.within, h.small, h.words_long, long, words-kept);
          comes = rw f.front (came_append held'.ending f.new s' read f.comes);
          wanted = e.0;
          small = e.1;
        }

-- as long as the script goes on, fewer words are left to read
abbrev pub going : Option Over → ℕ → ℕ
going None d = suc d
going (Some e) d = 0

less_by : (e : Option Over) (d d' : ℕ) → (e ≡ None → d' < d) → going e d' < suc d
less_by None d d' h = omega (arith, h refl)
less_by (Some e) d d' h = omega arith

going_less : (e e' : Option Over) (d d' : ℕ) → e ≡ None → (e' ≡ None → d' < d) → going e' d' < going e d
going_less e e' d d' on h = rw on (less_by e' d d' h)

pub partly_less : (p : Part) {words₀ : List ℕ} {s₀ s : Reading} {words : List ℕ} {held : Held} {want : ℕ} {s' : Reading} {words' : List ℕ} {held' : Held} → Partly p words₀ s₀ s words held want
    → held.count < want → Fills words held.count want s s' held' words' → going held'.ending (4239 - held'.count) < going held.ending (4239 - held.count)
partly_less p {held = held} {want = want} {held' = held'} h less f =
    going_less held.ending held'.ending (4239 - held.count) (4239 - held'.count) (was_open p h less)
    (λ e. omega (arith, f.full e, h.small, less))

pub partly_whole : (p : Part) {words₀ : List ℕ} {s₀ s : Reading} {words : List ℕ} {held : Held} {want : ℕ} → Partly p words₀ s₀ s words held want → want ≤ held.count → Holds p s₀ s held words
partly_whole p h e = record { within = h.within; comes = h.comes; enough = rw (← h.wanted) e }

-- ---- what is left, read past

pub data Past (s₀ : Reading) (words : List ℕ) (s : Reading) : Type 0 where
  goes : Read s₀ words s → Past s₀ words s
  gone : (e : Over) → All s₀ words e s → s.left ≡ 0 → Past s₀ words s

pub record Passing (s₀ s : Reading) : Type 0 where
  pub words : List ℕ
  pub past : Past s₀ words s

pub passing_none : {s : Reading} → Passing s s
passing_none = record { words = []; past = goes read_none }

past_read : {s₀ : Reading} {words : List ℕ} {s : Reading} → Past s₀ words s → 0 < s.left → Read s₀ words s
past_read (goes p) h = p
past_read (gone e p z) h = let no : ⊥ = omega (arith, z, h) in absurd no

pub ends_nothing : {s s' : Reading} {e : Over} → Ends s e s' → s'.left ≡ 0
ends_nothing (limit h) = h
ends_nothing (input n z) = z

-- the next word, or the end
module _ {s₀ s : Reading} (p : Passing s₀ s) (h : 0 < s.left) where
  pub passing_more : {s' : Reading} (r : Result ℕ Over) → Comes s s' r → Passing s₀ s'
  passing_more (Ok w) n = record { words = p.words ++ (w ∷ []); past = goes (read_more w (past_read p.past h) n) }
  passing_more (Err e) o = record { words = p.words; past = gone e (record { then = s; read = past_read p.past h; ended = o }) (ends_nothing o) }

pub fewer : (s s' : Reading) (r : Result ℕ Over) → Comes s s' r → 0 < s.left → s'.left < s.left
fewer s s' (Ok w) n h = omega (arith, n.1)
fewer s s' (Err e) o h = omega (arith, ends_nothing o)

pub passed_by : {s₀ s : Reading} → Passing s₀ s → s.left ≡ 0 → Skips s₀ s
passed_by {s₀} {s} p z = by p.past
  where
    by : Past s₀ p.words s → Skips s₀ s
    by (goes r) = record { words = p.words; how = over.End; all = record { then = s; read = r; ended = limit z }; nothing_left = z }
    by (gone e a z) = record { words = p.words; how = e; all = a; nothing_left = z }
