-- A run of a session of either kind: calls on one station, with what each was answered. Definitions only.
-- S is the kind's session, Q what it can be asked, A what it tells where it does not refuse.
use Rattle.std.specs.Prelude.{◌≡◌, Bool, true, false, ◌&&◌, ◌||◌, List, [], ◌∷◌, T, eqb, Float}
use Rattle.vectors.specs.Refusal.{Answer, refused, given, then, number, left_in, scratch_after}
use Rattle.offer.specs.State.{Promise, promised}
use Rattle.offer.specs.declared.state.State.{State}

-- ---- the station and its calls

pub record Vectors : Type 0 where
  pub point : List Float
  pub gradient : List Float
  pub hessian : List Float
  pub step : List Float
  pub trial : List Float
  pub scratch : List Float

-- one session, and the vectors that it is lent: nothing touches them but the calls
pub record Station (S : Type 0) : Type 0 where
  pub session : S
  pub lent : Vectors

-- The vectors that a call is lent, besides the answers: the station's own, or any others.
pub data Lending : Type 0 where
  own : Lending
  others : Vectors → Lending

pub record Call (Q : Type 0) : Type 0 where
  pub request : Q
  pub lending : Lending

-- ---- what a call is answered

-- A trial, told when its cost is taken: the proposal, the cost before it, what it was promised on, the cost F, the ratio, the verdict, the radius before and afterwards.
pub record Trial : Type 0 where
  pub step : List Float
  pub trial : List Float
  pub before : Float
  pub promise : Answer Promise
  pub cost : Float
  pub ratio : Float
  pub accepted : Bool
  pub radius_before : Float
  pub radius : Float

abbrev pub trial_at : {S : Type 0} → (state : S → State) → Station S → (F ratio : Float) (accepted : Bool) (after : S) → Trial
trial_at state s F ratio accepted after = record {
  step = s.lent.step;
  trial = s.lent.trial;
  before = (state s.session).cost;
  promise = promised (state s.session).phase;
  cost = F;
  ratio = ratio;
  accepted = accepted;
  radius_before = (state s.session).radius;
  radius = (state after).radius;
}

-- the reply of a call, and the station afterwards
pub record Done (S A : Type 0) : Type 0 where
  pub reply : Answer A
  pub after : Station S

-- The code's call that said `said` and left the session and the vectors v did this, where `outcome` is how the code says a reply.
pub record Does {S A O : Type 0} (outcome : Answer A → O) (d : Done S A) (said : O) (session : S) (v : Vectors) : Type 0 where
  pub says : said ≡ outcome d.reply
  pub leaves : record { session = session; lent = v } ≡ d.after

-- by the answer that the call gives: what it tells, the session and the vectors that it leaves
abbrev pub answered : {S A B : Type 0} → (tell : B → A) (session : B → S) (lent : Answer B → Vectors → Vectors) → Station S → Answer B → Done S A
answered tell session lent s a = record {
  reply = then (λ b. given (tell b)) a;
  after = record { session = left_in session a s.session; lent = lent a s.lent };
}

-- what a proposal leaves, by the step and the trial of one that is made
abbrev pub proposing : {B : Type 0} → (step trial : B → List Float) → Answer B → Vectors → Vectors
proposing step trial a v = record {
  point = v.point;
  gradient = v.gradient;
  hessian = v.hessian;
  step = left_in step a v.step;
  trial = left_in trial a v.trial;
  scratch = scratch_after a v.scratch;
}

-- ---- a run, by how the kind of session responds

-- the session, lent v
abbrev pub lending_it : {S : Type 0} → Vectors → Station S → Station S
lending_it v s = record { session = s.session; lent = v }

-- done elsewhere, and v lent again
abbrev pub handed_back : {S A : Type 0} → Vectors → Done S A → Done S A
handed_back v d = record { reply = d.reply; after = lending_it v d.after }

-- One line of a run: a call, and what it was answered.
pub record Entry (Q A : Type 0) : Type 0 where
  pub call : Call Q
  pub reply : Answer A

module _ {S Q A : Type 0} (respond : Q → Station S → Done S A) where
  -- A call that is lent others changes those, and the station in its session alone.
  abbrev pub perform_by : Lending → Q → Station S → Done S A
  perform_by own q s = respond q s
  perform_by (others v) q s = handed_back s.lent (respond q (lending_it v s))

  abbrev pub perform : Call Q → Station S → Done S A
  perform c s = perform_by c.lending c.request s

  abbrev pub entry : Call Q → Station S → Entry Q A
  entry c s = record { call = c; reply = (perform c s).reply }

  -- what each call is answered, and where the station ends
  abbrev pub run : Station S → List (Call Q) → List (Entry Q A)
  run s [] = []
  run s (c ∷ cs) = entry c s ∷ run (perform c s).after cs

  abbrev pub final : Station S → List (Call Q) → Station S
  final s [] = s
  final s (c ∷ cs) = final (perform c s).after cs

abbrev pub calls : {Q A : Type 0} → List (Entry Q A) → List (Call Q)
calls [] = []
calls (e ∷ es) = e.call ∷ calls es

-- ---- refused calls

abbrev pub was_refused : {A : Type 0} → Answer A → Bool
was_refused (refused r) = true
was_refused (given a) = false

abbrev pub refused_by_1 : {A : Type 0} → Answer A → Bool
refused_by_1 (refused r) = eqb (number r) 1
refused_by_1 (given a) = false

-- "lent the same vectors, besides the answers, at every call not refused by 1"
abbrev pub lends_own : Lending → Bool
lends_own own = true
lends_own (others v) = false

abbrev pub lent_at : {Q A : Type 0} → Entry Q A → Bool
lent_at e = lends_own e.call.lending || refused_by_1 e.reply

abbrev pub lent_same : {Q A : Type 0} → List (Entry Q A) → Bool
lent_same [] = true
lent_same (e ∷ es) = lent_at e && lent_same es

module _ {Q A : Type 0} where
  -- "Other refused calls may be struck too": `Thinned es ds` says that ds is es without some of its refused calls.
  pub data Thinned : List (Entry Q A) → List (Entry Q A) → Type 0 where
    none : Thinned [] []
    keep : (e : Entry Q A) {es ds : List (Entry Q A)} → Thinned es ds → Thinned (e ∷ es) (e ∷ ds)
    drop : (e : Entry Q A) {es ds : List (Entry Q A)} → T (was_refused e.reply) → Thinned es ds → Thinned (e ∷ es) ds

-- P of each
abbrev pub Every : {A : Type 0} → (A → Type 0) → List A → Type 0
Every P [] = Unit {0}
Every P (x ∷ xs) = P x × Every P xs
