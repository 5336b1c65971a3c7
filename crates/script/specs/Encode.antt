-- The words in which a start and a call are told: the format of Start.antt and Call.antt, the other way. Definitions only.
use Rattle.std.specs.Prelude.{◌≡◌, true, Some, List, [], ◌∷◌, ◌++◌, map, ℕ, ◌+◌, ◌*◌, ◌≤◌, T, length, drop, Float}
use Rattle.std.specs.Float.{binary64}
use Rattle.std.specs.Float.Ieee.{fits, to_bits}
use Rattle.vectors.specs.Vector.{at}
use Rattle.codec.specs.Codec.{turn_of}
use Rattle.codec.specs.declared.Turn.{Turn}
use Rattle.offer.specs.declared.state.Phase.{Phase}
use Rattle.offer.specs.declared.state.Phase.TheVariants as phase
use Rattle.trustregion.specs.Run as TrustRegion
use Rattle.trustregion.specs.declared.settings.Settings as trustregion
use Rattle.sr1.specs.Run as Sr1
use Rattle.sr1.specs.declared.settings.Settings as sr1_session
use Rattle.script.specs.declared.Kind.{Kind}
use Rattle.script.specs.declared.Kind.TheVariants as kind
use Rattle.script.specs.declared.start.Start as declared
use Rattle.script.specs.Places.{numbers}
use Rattle.script.specs.Start.{size_of, cost_at, is_whole, start_of}
use Rattle.script.specs.Call.{Call, trust_region, sr1, change, count, odd}

-- "A word is a whole number from 0 to 2^64 − 1 or the bits of an f64"
abbrev pub word_of : Float → ℕ
word_of x = to_bits binary64 x

abbrev pub bits : List Float → List ℕ
bits v = map word_of v

-- ---- calls

-- "propose `1 t`", "cost `2 t F`", "derivatives `3 t g H`"
abbrev pub trust_region_encoded : TrustRegion.Request → List ℕ
trust_region_encoded (TrustRegion.propose t) = 1 ∷ t ∷ []
trust_region_encoded (TrustRegion.cost t F) = 2 ∷ t ∷ word_of F ∷ []
trust_region_encoded (TrustRegion.derivatives t g H) = 3 ∷ t ∷ bits g ++ bits H

-- "in an SR1 session `2 t F G`"
abbrev pub sr1_encoded : Sr1.Request → List ℕ
sr1_encoded (Sr1.propose t) = 1 ∷ t ∷ []
sr1_encoded (Sr1.answer t F G) = 2 ∷ t ∷ word_of F ∷ bits G

-- "phase a b"
abbrev pub turn_encoded : Turn → List ℕ
turn_encoded turn = turn.number ∷ word_of turn.promise ∷ word_of turn.norm ∷ []

-- "change `4 radius cost phase a b`", "count `5 count`"; what is odd has no words
abbrev pub call_encoded : Call → List ℕ
call_encoded (trust_region r) = trust_region_encoded r
call_encoded (sr1 r) = sr1_encoded r
call_encoded (change radius cost p) = 4 ∷ word_of radius ∷ word_of cost ∷ turn_encoded (turn_of p)
call_encoded (count k) = 5 ∷ k ∷ []
call_encoded odd = []

-- ---- which calls a session of a kind and an n is told

-- x is an f64: of the numbers that `Float` has, only these have a word of their own
abbrev pub Held : Float → Type 0
Held x = T (fits binary64 x)

-- a list of n such numbers
pub record Numbers (n : ℕ) (v : List Float) : Type 0 where
  pub long : length v ≡ n
  pub held : (i : ℕ) → Held (at v i)

abbrev pub trust_region_fits : (n : ℕ) → TrustRegion.Request → Type 0
trust_region_fits n (TrustRegion.propose t) = Unit {0}
trust_region_fits n (TrustRegion.cost t F) = Held F
trust_region_fits n (TrustRegion.derivatives t g H) = Numbers n g × Numbers (n * n) H

abbrev pub sr1_fits : (n : ℕ) → Sr1.Request → Type 0
sr1_fits n (Sr1.propose t) = Unit {0}
sr1_fits n (Sr1.answer t F G) = Held F × Numbers n G

-- an SR1 session awaits no derivatives
abbrev pub phase_fits : Kind → Phase → Type 0
phase_fits k phase.Ready = Unit {0}
phase_fits k (phase.AwaitingCost promise norm) = Held promise × Held norm
phase_fits kind.TrustRegion phase.AwaitingDerivatives = Unit {0}
phase_fits kind.Sr1 phase.AwaitingDerivatives = ⊥

abbrev pub call_fits : Kind → (n : ℕ) → Call → Type 0
call_fits kind.TrustRegion n (trust_region r) = trust_region_fits n r
call_fits kind.Sr1 n (trust_region r) = ⊥
call_fits kind.TrustRegion n (sr1 r) = ⊥
call_fits kind.Sr1 n (sr1 r) = sr1_fits n r
call_fits k n (change radius cost p) = Held radius × Held cost × phase_fits k p
call_fits k n (count c) = Unit {0}
call_fits k n odd = ⊥

-- the call is one of such a session, its lists have the session's n, and its numbers are f64
pub record Fits (k : Kind) (n : ℕ) (c : Call) : Type 0 where
  pub small : n ≤ 64
  pub told : call_fits k n c

-- ---- starts: in kinds 3 and 4, with all further settings that the kind knows

-- "point, gradient, Hessian"
abbrev pub lists_encoded : (point gradient hessian : List Float) → List ℕ
lists_encoded point gradient hessian = bits point ++ (bits gradient ++ bits hessian)

-- "kind, n; kernel, radius, max_radius, eta, epsilon, limit"; allowance and dogleg
abbrev pub trust_region_start : trustregion.Settings → (cost : Float) → (n : ℕ) → (point gradient hessian : List Float) → List ℕ
trust_region_start t cost n point gradient hessian =
    3 ∷ n ∷ t.choice.kernel ∷ word_of t.radius ∷ word_of t.max_radius ∷ word_of t.eta ∷ word_of t.choice.epsilon ∷ t.choice.limit
    ∷ 2 ∷ t.allowance ∷ t.choice.dogleg
    ∷ word_of cost ∷ lists_encoded point gradient hessian

-- "kind, n; kernel, radius, eta, factor, tol_grad, epsilon, limit"; allowance, dogleg and edition
abbrev pub sr1_start : sr1_session.Settings → (cost : Float) → (n : ℕ) → (point gradient hessian : List Float) → List ℕ
sr1_start t cost n point gradient hessian =
    4 ∷ n ∷ t.choice.kernel ∷ word_of t.radius ∷ word_of t.eta ∷ word_of t.factor ∷ word_of t.tol_grad ∷ word_of t.choice.epsilon ∷ t.choice.limit
    ∷ 3 ∷ t.allowance ∷ t.choice.dogleg ∷ t.edition
    ∷ word_of cost ∷ lists_encoded point gradient hessian

-- n is one of a session, the lists have it, and their numbers are f64
pub record ListsFit (n : ℕ) (point gradient hessian : List Float) : Type 0 where
  pub low : 1 ≤ n
  pub high : n ≤ 64
  pub point_fits : Numbers n point
  pub gradient_fits : Numbers n gradient
  pub hessian_fits : Numbers (n * n) hessian

-- the numbers of settings are f64
pub record TrustRegionHeld (t : trustregion.Settings) : Type 0 where
  pub radius : Held t.radius
  pub max_radius : Held t.max_radius
  pub eta : Held t.eta
  pub epsilon : Held t.choice.epsilon

pub record Sr1Held (t : sr1_session.Settings) : Type 0 where
  pub radius : Held t.radius
  pub eta : Held t.eta
  pub factor : Held t.factor
  pub tol_grad : Held t.tol_grad
  pub epsilon : Held t.choice.epsilon

-- the words tell this start and these lists
pub record Tells (words : List ℕ) (s : declared.Start) (n : ℕ) (point gradient hessian : List Float) : Type 0 where
  pub whole : is_whole words ≡ true
  pub start_back : start_of words ≡ Some s
  pub point_back : numbers (drop (cost_at words + 1) words) n ≡ point
  pub gradient_back : numbers (drop (cost_at words + 1 + size_of words) words) n ≡ gradient
  pub hessian_back : numbers (drop (cost_at words + 1 + 2 * size_of words) words) (n * n) ≡ hessian
