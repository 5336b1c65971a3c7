-- The words of a call: "propose `1 t`; cost `2 t F`, in an SR1 session `2 t F G`; derivatives `3 t g H`, in a `TrustRegion` session alone; change `4 radius cost phase a b`; count `5 count`".
-- Definitions only.
use Rattle.std.specs.Prelude.{◌≡◌, Bool, cond, Option, Some, None, List, ℕ, ◌+◌, ◌*◌, eqb, ltb, length, drop, Float}
use Rattle.codec.specs.Codec.{phase_of}
use Rattle.codec.specs.declared.Turn.{Turn}
use Rattle.offer.specs.declared.state.Phase.{Phase}
use Rattle.trustregion.specs.Run as TrustRegion
use Rattle.sr1.specs.Run as Sr1
use Rattle.script.specs.declared.Kind.{Kind}
use Rattle.script.specs.declared.Kind.TheVariants as kind
use Rattle.script.specs.declared.call.Call.TheVariants as code
use Rattle.script.specs.declared.call.Call as declared
use Rattle.script.specs.Places.{word, number, numbers}
use Rattle.script.specs.Start.{by_kind}

-- ---- what is asked: a request of a run, or what a caller puts into the session; words that make no call are odd

pub data Call : Type 0 where
  trust_region : TrustRegion.Request → Call
  sr1 : Sr1.Request → Call
  change : (radius cost : Float) → Phase → Call
  count : ℕ → Call
  odd : Call

-- the same of the code's call, with the lists that come with an answer
abbrev pub asks_trust_region : Option declared.Call → (G H : List Float) → Call
asks_trust_region (Some (code.Propose n)) G H = trust_region (TrustRegion.propose n)
asks_trust_region (Some (code.Cost n F)) G H = trust_region (TrustRegion.cost n F)
asks_trust_region (Some (code.Derivatives n)) G H = trust_region (TrustRegion.derivatives n G H)
asks_trust_region (Some (code.Change radius cost phase)) G H = change radius cost phase
asks_trust_region (Some (code.Count k)) G H = count k
asks_trust_region None G H = odd

abbrev pub asks_sr1 : Option declared.Call → (G : List Float) → Call
asks_sr1 (Some (code.Propose n)) G = sr1 (Sr1.propose n)
asks_sr1 (Some (code.Cost n F)) G = sr1 (Sr1.answer n F G)
asks_sr1 (Some (code.Derivatives n)) G = odd
asks_sr1 (Some (code.Change radius cost phase)) G = change radius cost phase
asks_sr1 (Some (code.Count k)) G = count k
asks_sr1 None G = odd

abbrev pub asks : Kind → Option declared.Call → (G H : List Float) → Call
asks kind.TrustRegion c G H = asks_trust_region c G H
asks kind.Sr1 c G H = asks_sr1 c G

-- ---- how many words there are

abbrev pub cost_words : Kind → (n : ℕ) → ℕ
cost_words k n = by_kind 3 (3 + n) k

abbrev pub derivative_words : Kind → (n : ℕ) → ℕ
derivative_words k n = by_kind (2 + n + n * n) 0 k

-- by the number of the call; 0 where there is none
abbrev pub call_words : Kind → (n first : ℕ) → ℕ
call_words k n first =
    cond (eqb first 1) 2
    (cond (eqb first 2) (cost_words k n)
    (cond (eqb first 3) (derivative_words k n)
    (cond (eqb first 4) 6
    (cond (eqb first 5) 2 0))))

-- How many the call has, as far as those that are there tell it: one, then all. No session has an n above 64.
unfoldable pub wants : Kind → (n : ℕ) → (words : List ℕ) → ℕ
wants k n words = cond (eqb (length words) 0) 1 (cond (ltb 64 n) 0 (call_words k n (word words 0)))

-- ---- what they say

-- "a phase above 2; in an SR1 session also phase 2" makes no call
abbrev pub last_phase : Kind → ℕ
last_phase = by_kind 2 1

abbrev pub turn_at : (words : List ℕ) → Turn
turn_at words = record { number = word words 3; promise = number words 4; norm = number words 5 }

abbrev pub changes : Kind → (words : List ℕ) → Option declared.Call
changes k words = cond (ltb (last_phase k) (word words 3)) None (Some (code.Change (number words 1) (number words 2) (phase_of (turn_at words))))

-- the gradient that comes with a cost, in a list of its length
abbrev pub with_cost : Kind → (words : List ℕ) → (old : List Float) → List Float
with_cost k words old = by_kind old (numbers (drop 3 words) (length old)) k

module _ (k : Kind) (n : ℕ) (words : List ℕ) where
  abbrev pub is_whole : Bool
  is_whole = eqb (wants k n words) (length words)

  abbrev pub call_of : Option declared.Call
  call_of =
      cond (eqb (word words 0) 1) (Some (code.Propose (word words 1)))
      (cond (eqb (word words 0) 2) (Some (code.Cost (word words 1) (number words 2)))
      (cond (eqb (word words 0) 3) (Some (code.Derivatives (word words 1)))
      (cond (eqb (word words 0) 4) (changes k words)
      (cond (eqb (word words 0) 5) (Some (code.Count (word words 1))) None))))

  -- the lists that come with the call, and else what was there
  abbrev pub gradient_left : List Float → List Float
  gradient_left old =
      cond (eqb (word words 0) 2) (with_cost k words old)
      (cond (eqb (word words 0) 3) (numbers (drop 2 words) (length old)) old)

  abbrev pub hessian_left : List Float → List Float
  hessian_left old = cond (eqb (word words 0) 3) (numbers (drop (2 + n) words) (length old)) old

-- a call's words as the code decodes them: the lists that come with it are filled
pub record Decoded (k : Kind) (n : ℕ) (words : List ℕ) (r : Option declared.Call) (gradient gradient' hessian hessian' : List Float) : Type 0 where
  pub says : r ≡ cond (is_whole k n words) (call_of k n words) None
  pub leaves_gradient : gradient' ≡ cond (is_whole k n words) (gradient_left k n words gradient) gradient
  pub leaves_hessian : hessian' ≡ cond (is_whole k n words) (hessian_left k n words hessian) hessian

-- what the words of a call ask
abbrev pub trust_region_asked : (n : ℕ) → (words : List ℕ) → Call
trust_region_asked n words = asks_trust_region (call_of kind.TrustRegion n words) (numbers (drop 2 words) n) (numbers (drop (2 + n) words) (n * n))

abbrev pub sr1_asked : (n : ℕ) → (words : List ℕ) → Call
sr1_asked n words = asks_sr1 (call_of kind.Sr1 n words) (numbers (drop 3 words) n)

unfoldable pub asked : Kind → (n : ℕ) → (words : List ℕ) → Call
unfolding wants numbers
asked kind.TrustRegion n words = cond (is_whole kind.TrustRegion n words) (trust_region_asked n words) odd
asked kind.Sr1 n words = cond (is_whole kind.Sr1 n words) (sr1_asked n words) odd
