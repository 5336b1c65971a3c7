-- Laws of two answers side by side, and of a run of either kind of session. Assumes nothing.
use mathlib.Core.Path.{◌≡◌, refl, sym, subst}
use mathlib.Core.Bool.{Bool, true, false, not, cond}
use mathlib.Core.List.{List, [], ◌∷◌}
use lib.Dec.{T}
use Rattle.vectors.specs.Refusal.{Answer, refused, given, Check, unless}
use Rattle.vectors.specs.declared.refusal.Refusal.{Refusal}
use Rattle.offer.specs.Run.{Vectors, Station, Lending, own, others, Call, Done, Does, lending_it, handed_back, Entry, perform_by, perform, entry, run, final, calls, was_refused, Thinned, keep, drop, Every}
use Rattle.offer.proofs.Checks.{None}

-- ---- answers

-- what holds of every refusal, and of what is given, holds of the answer
pub answer_elim : {A : Type 0} (P : Answer A → Type 0) (a : Answer A) → ((r : Refusal) → P (refused r)) → ((x : A) → a ≡ given x → P (given x)) → P a
answer_elim P (refused r) bad good = bad r
answer_elim P (given x) bad good = good x refl

-- two under the same checks: both are refused, or neither
pub unless_both : {A B : Type 0} (P : Answer A → Answer B → Type 0) {cs ds : List Check} → cs ≡ ds → (a : Answer A) (b : Answer B) → ((r : Refusal) → P (refused r) (refused r)) → (None cs → P a b) → P (unless cs a) (unless ds b)
unless_both {A} {B} P {cs} e a b bad good = subst (λ (ds : List Check). P (unless cs a) (unless ds b)) e (go cs good)
  where
    case : (c : Check) (x : Answer A) (y : Answer B) (b : Bool) → (T (not b) → P x y) → P (cond b (refused c.refusal) x) (cond b (refused c.refusal) y)
    case c x y true k = bad c.refusal
    case c x y false k = k tt

    go : (cs : List Check) → (None cs → P a b) → P (unless cs a) (unless cs b)
    go [] k = k tt
    go (c ∷ cs) k = case c (unless cs a) (unless cs b) c.applies (λ v. go cs (λ w. k (v, w)))

-- ---- what the code does, from its parts
pub does : {S A O : Type 0} (outcome : Answer A → O) (d : Done S A) {said : O} {session : S} {v : Vectors} → said ≡ outcome d.reply → session ≡ d.after.session → v ≡ d.after.lent → Does outcome d said session v
does outcome d e f g = record { says = e; leaves = λ i. record { session = f i; lent = g i } }

-- ---- runs

module _ {S Q A : Type 0} (respond : Q → Station S → Done S A) where
  -- what holds of what the session responds, and where others were lent of what is handed back, holds of every call
  pub perform_elim : (R : Station S → Done S A → Type 0)
      → ((v : Vectors) (s : Station S) (d : Done S A) → R (lending_it v s) d → R s (handed_back s.lent d))
      → ((q : Q) (s : Station S) → R s (respond q s))
      → (c : Call Q) (s : Station S) → R s (perform respond c s)
  perform_elim R back here c s = go c.lending
    where
      go : (l : Lending) → R s (perform_by respond l c.request s)
      go own = here c.request s
      go (others v) = back v s _ (here c.request (lending_it v s))

  -- what every call keeps, a run keeps; and where each call then tells P, all of the run do
  pub run_keeps : (I : Station S → Type 0) (P : Answer A → Type 0)
      → ((c : Call Q) (s : Station S) → I s → I (perform respond c s).after × P (perform respond c s).reply)
      → (cs : List (Call Q)) (s : Station S) → I s → I (final respond s cs) × Every (λ (e : Entry Q A). P e.reply) (run respond s cs)
  run_keeps I P one [] s i = (i, tt)
  run_keeps I P one (c ∷ cs) s i =
      let k = one c s i in
      let rest = run_keeps I P one cs (perform respond c s).after k.0 in
      (rest.0, (k.1, rest.1))

  -- ---- a run replayed, where stations may differ in what is not `Alike`
  module _ (Alike : Station S → Station S → Type 0) where
    pub record Follows (d e : Done S A) : Type 0 where
      pub reply : d.reply ≡ e.reply
      pub after : Alike d.after e.after

    -- `kept`, replayed from t, is answered as it was, and ends as `cs` from s does
    pub record Replays (s : Station S) (cs : List (Call Q)) (t : Station S) (kept : List (Entry Q A)) : Type 0 where
      pub replies : run respond t (calls kept) ≡ kept
      pub ends : Alike (final respond s cs) (final respond t (calls kept))

    -- one more call at the front: kept, or struck
    pub replay_keep : (c : Call Q) (s t : Station S) (cs : List (Call Q)) (kept : List (Entry Q A)) → Follows (perform respond c s) (perform respond c t)
        → Replays (perform respond c s).after cs (perform respond c t).after kept → Replays s (c ∷ cs) t (entry respond c s ∷ kept)
    replay_keep c s t cs kept f r = record { replies = λ i. record { call = c; reply = sym f.reply i } ∷ r.replies i; ends = r.ends }

    pub replay_strike : (c : Call Q) (s t : Station S) (cs : List (Call Q)) (kept : List (Entry Q A)) → Replays (perform respond c s).after cs t kept → Replays s (c ∷ cs) t kept
    replay_strike c s t cs kept r = record { replies = r.replies; ends = r.ends }

-- a thinned list keeps its first call, or drops it where that was refused
pub thinned_elim : {Q A : Type 0} (P : List (Entry Q A) → Type 0) (e : Entry Q A) (es kept : List (Entry Q A)) → Thinned (e ∷ es) kept
    → ((ds : List (Entry Q A)) → Thinned es ds → P (e ∷ ds)) → ((ds : List (Entry Q A)) → T (was_refused e.reply) → Thinned es ds → P ds) → P kept
thinned_elim P e es kept (keep x {ds = ds} h) k d = k ds h
thinned_elim P e es kept (drop x w h) k d = d kept w h
