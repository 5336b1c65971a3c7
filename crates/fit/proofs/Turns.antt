-- What the words of a call come to. Assumes nothing.
use Rattle.std.proofs.Common.{◌≡◌, ℕ, suc, ◌<◌, ◌≤◌, Bool, true, false, cond, not, List, [], ◌∷◌, Option, Some, None, length, take, sym, refl, ap, ◌∙◌, subst, arith, length-take-le}
use Rattle.offer.specs.Run.{Vectors}
use Rattle.script.specs.Call.{Call, asked}
use Rattle.script.specs.Call as Call
use Rattle.script.specs.declared.Kind.{Kind}
use Rattle.event.specs.declared.Event.{Event}
use Rattle.event.specs.declared.Event.TheVariants as event
use Rattle.event.specs.Event.{is_last}
use Rattle.station.specs.Happening.{Station, at, Performed}
use Rattle.station.specs.Station.{kind_of, perform_by, perform}
use Rattle.station.specs.declared.Session.{Session}
use Rattle.station.specs.declared.Session.TheVariants as Kinds
use Rattle.station.specs.declared.After.{After}
use Rattle.stream.specs.Pieces.{Puts}
use Rattle.stream.specs.Input.{Same}
use Rattle.stream.specs.declared.input.Over.{Over}
use Rattle.stream.specs.declared.input.Over.TheVariants as over
use Rattle.stream.specs.declared.output.Page.{Page}
use Rattle.stream.proofs.Found.{same, same_still}
use Rattle.fit.specs.Reading.{Holds, Came_to, Skips, wants_more, is_end}
use Rattle.fit.specs.Meaning.{comes_to, trials_after, written, Turned, Kept, Ended}
use Rattle.fit.specs.declared.Form.{Form}
use Rattle.fit.specs.declared.Standing.{Standing}
use Rattle.fit.specs.declared.reading.Part.TheVariants as part
use Rattle.fit.specs.declared.reading.Held.{Held}
use Rattle.fit.specs.declared.reading.Reading.{Reading}
use Rattle.fit.proofs.Words.{came_same, all_same, ends_nothing}
use Rattle.fit.proofs.Pages.{puts_same}

module _ (n : ℕ) (session : Session) (v : Vectors) (words : List ℕ) (held : Held) (within : held.count ≤ length words) where
  pub comes_call : is_end held.ending held.count ≡ false → (c : Call) → c ≡ asked (kind_of session) n (take held.count words) → (r : After) (v' : Vectors)
      → Performed (perform c (at session v)) r v' → Performed (comes_to n (at session v) (take held.count words) held.ending) r v'
  comes_call e c told r v' p = rw (length-take-le held.count words within, e) (subst (λ (x : Call). Performed (perform x (at session v)) r v') told p)

-- a turn, from its parts
pub turned : (f : Form) (standing : Standing) (v : Vectors) {script script' : Reading} {page page' : Page} {words' : List ℕ} {held : Held} {after : After} {v' : Vectors} {k : ℕ} {kind : Kind} {last : Bool}
    → kind ≡ kind_of standing.session → Holds (part.Call kind f.n) script script' held words'
    → Performed (comes_to f.n (at standing.session v) (take held.count words') held.ending) after v'
    → Puts (written f.manner standing.trials after.event f.tells_more v') page page'
    → k ≡ trials_after standing.trials after.event → last ≡ is_last after.event
    → Turned f standing script page v (record { session = after.session; trials = k; running = not last }) script' page' v'
turned f standing v {words' = words'} {held = held} {after = after} e h p q c l = record {
  words = take held.count words';
  how = held.ending;
  event = after.event;
  comes = h.comes;
  enough = rw (length-take-le held.count words' h.within) (subst (λ (x : Kind). wants_more held.ending (Call.wants x f.n (take held.count words')) ≤ held.count) e h.enough);
  happens = p;
  puts = q;
  counts = c;
  goes_on = ap not l;
}

pub turned_kept : {f : Form} {standing : Standing} {script script' : Reading} {page page' : Page} {v v' : Vectors} {r : Standing} → Turned f standing script page v r script' page' v' → Kept script page script' page'
turned_kept t = record { room = came_same t.how _ t.words _ t.comes; paper = puts_same t.puts }

pub kept_still : {s s₁ s₂ : Reading} {p p₁ p₂ : Page} → Kept s p s₁ p₁ → Kept s₁ p₁ s₂ p₂ → Kept s p s₂ p₂
kept_still k l = record { room = same_still k.room l.room; paper = same_still k.paper l.paper }

pub kept_by : {script : Reading} {page page' : Page} → Same page.bytes page'.bytes → Kept script page script page'
kept_by e = record { room = same refl; paper = e }

-- a run, from its parts
pub ended : {s₀ s₁ s₂ s₃ : Reading} {p p' : Page} → Same s₀.input.room s₁.input.room → Kept s₁ p s₂ p' → Skips s₂ s₃ → Ended s₀ p s₃ p'
ended e k z = record { over = z.nothing_left; kept = record { room = same_still e (same_still k.room (all_same z.all)); paper = k.paper } }

-- ---- turns come to an end

-- no words make no call, so the last event of all
bad_empty : (session : Session) (v : Vectors) (n : ℕ) → (perform_by session v (asked (kind_of session) n [])).event ≡ event.Bad
unfolding asked Call.wants
bad_empty (Kinds.TrustRegion s) v n = refl
bad_empty (Kinds.Sr1 s) v n = refl

empty_last : (n : ℕ) (s : Station) (how : Option Over) → is_last (comes_to n s [] how).event ≡ true
empty_last n s None = ap is_last (bad_empty s.session s.lent n)
empty_last n s (Some over.End) = refl
empty_last n s (Some over.Short) = ap is_last (bad_empty s.session s.lent n)

one_if : Bool → ℕ
one_if b = cond b 1 0

some_words : (n : ℕ) (s : Station) (how : Option Over) (words : List ℕ) (e : Event) (running : Bool) → running ≡ not (is_last e) → e ≡ (comes_to n s words how).event → running ≡ true → 1 ≤ length words
unfolding one_if
some_words n s how [] e running on says so =
    let last : is_last e ≡ true = ap is_last says ∙ empty_last n s how in
    let no : true ≡ false = sym so ∙ on ∙ ap not last in
    let off : ◌≡◌ {A = ℕ} 1 0 = ap one_if no in omega (arith, off)
some_words n s how (w ∷ words) e running on says so = omega arith

fewer_left : (how : Option Over) (s : Reading) (words : List ℕ) (s' : Reading) → Came_to how s words s' → 1 ≤ length words → s'.left < s.left
fewer_left None s words s' p h = omega (arith, p.fewer, h)
fewer_left (Some e) s words s' p h = omega (arith, p.read.fewer, h, ends_nothing p.ended)

-- how many words a run may still read
abbrev pub still : Bool → ℕ → ℕ
still true left = suc left
still false left = 0

still_less : (running : Bool) (left' left : ℕ) → (running ≡ true → left' < left) → still running left' < suc left
still_less true left' left h = omega (arith, h refl)
still_less false left' left h = omega arith

pub turned_less : {f : Form} {standing : Standing} {script script' : Reading} {page page' : Page} {v v' : Vectors} {r : Standing}
    → Turned f standing script page v r script' page' v' → standing.running ≡ true → still r.running script'.left < still standing.running script.left
turned_less {f} {standing} {script} {script'} {v = v} {r = r} t on =
    rw on
    (still_less r.running script'.left script.left
    (λ so. fewer_left t.how script t.words script' t.comes (some_words f.n (at standing.session v) t.how t.words t.event r.running t.goes_on t.happens.says so)))
