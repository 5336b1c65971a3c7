-- A run with a NaN trial, the order of refusals, and hidden trials in a row, worked out over the definitions. Assumes nothing. (Document 01's marked cases are crates/marked.)
use mathlib.Core.Path.{◌≡◌, refl, sym, ◌∙◌, ap, subst}
use mathlib.Core.Bool.{Bool, true, false, not, ◌&&◌}
use mathlib.Core.List.{List, [], ◌∷◌, ◌++◌, map}
use Prim.Native.Nat.{ℕ, ◌+◌, ◌^◌}
use native.Mathlib.Omega.{arith}
use lib.Dec.{T}
use lib.Ieee.{Float, nan, inf, binary64, round, of_bits, add, sub, mul, div, neg, lt, le, eq, is_nan}
use Rattle.float.specs.Constants.{nought, one, two}
use Rattle.vectors.specs.Vector.{zeros}
use Rattle.vectors.specs.Refusal.{Answer, refused, given, number, room}
use Rattle.kernels.specs.Choice as Choice
use Rattle.trustregion.specs.Settings.{allowing, by_default, chosen}
use Rattle.trustregion.specs.Session.{Session, proposal, next_radius, judgement, renewal}
use Rattle.offer.specs.Run.{Trial, own, others, run, final, calls, lent_same, Thinned, none, keep}
use Rattle.offer.specs.State.{begin, moved, in_phase, awaits_cost}
use Rattle.trustregion.specs.Run.{Station, Request, propose, cost, derivatives, Call, Entry, respond, never_reaches, strike, trials}
use Rattle.trustregion.specs.Demand3.{Same_run}
use Rattle.offer.specs.declared.state.Phase.{Phase}
use Rattle.offer.specs.declared.state.Phase.TheVariants.{Ready, AwaitingCost, AwaitingDerivatives}

infix 30 ◌over◌
-- a / b, rounded once
unfoldable pub ◌over◌ : ℕ → ℕ → Float
unfolding round
a over b = round binary64 false a b

-- "|‖p‖ − radius| ≤ 10·2^-52" is no matter of proportion: at radius 2^53 the next number is too far off.
pub far_off : eq (next_radius one ((2 ^ 53 + 2) over 1) ((2 ^ 53) over 1) ((2 ^ 60) over 1)) ((2 ^ 53) over 1) ≡ true
unfolding ◌over◌ next_radius of_bits sub mul lt le eq
far_off = refl

-- ---- a run

-- The Cauchy point of g = (3, 4) and the identity at radius 2.5 is (−1.5, −2); from f = 10 the model promises 0.625.
unfoldable pub station : Station
unfolding ◌over◌ zeros
station = record {
  session = record { settings = by_default 1 5; state = begin (5 over 2) (10 over 1) };
  lent = record {
    point = one ∷ one ∷ [];
    gradient = (3 over 1) ∷ (4 over 1) ∷ [];
    hessian = one ∷ nought ∷ nought ∷ one ∷ [];
    step = nought ∷ nought ∷ [];
    trial = nought ∷ nought ∷ [];
    scratch = zeros (room 2);
  };
}

abbrev pub call : Request → Call
call q = record { request = q; lending = own }

-- a proposal that is lent a point of one number
abbrev pub astray : Call
astray = record { request = propose 2; lending = others (record { point = one ∷ []; gradient = []; hessian = []; step = []; trial = []; scratch = [] }) }

-- a second trial, answered with 0.625, after a call with a wrong n: the ratio is 1, and the radius doubles
abbrev pub second_trial : List Call
second_trial = call (propose 2) ∷ call (cost 3 one) ∷ call (cost 2 (5 over 8)) ∷ call (derivatives 2 (one ∷ one ∷ []) (one ∷ one ∷ one ∷ one ∷ [])) ∷ []

-- before it a trial answered with NaN, with calls inside it that are refused by 3 and by 1
abbrev pub script : List Call
script = call (propose 2) ∷ call (propose 2) ∷ astray ∷ call (cost 2 nan) ∷ second_trial

-- A test, and no equation of lists: where it fails it says so at once.
abbrev pub same_numbers : List Float → List Float → Bool
same_numbers [] [] = true
same_numbers [] (y ∷ ys) = false
same_numbers (x ∷ xs) [] = false
same_numbers (x ∷ xs) (y ∷ ys) = eq x y && same_numbers xs ys

-- the radius and the point at the end
abbrev pub Ends : List Call → List Float → Type 0
Ends cs wanted = same_numbers ((final (respond chosen) station cs).session.state.radius ∷ (final (respond chosen) station cs).lent.point) wanted ≡ true

-- What is left is the second trial, and both runs end alike.
pub record Struck : Type 0 where
  pub lent : lent_same (run (respond chosen) station script) ≡ true
  pub left : calls (strike (run (respond chosen) station script)) ≡ second_trial
  pub ratios : map (λ (t : Trial). t.ratio) (trials (run (respond chosen) station script)) ≡ nan ∷ one ∷ []
  pub whole_ends : Ends script ((5 over 1) ∷ neg (1 over 2) ∷ neg one ∷ [])
  pub left_ends : Ends second_trial ((5 over 1) ∷ neg (1 over 2) ∷ neg one ∷ [])

pub struck : Struck
unfolding station ◌over◌ zeros respond Choice.kernel of_bits add sub mul div neg lt le eq is_nan
struck = record { lent = refl; left = refl; ratios = refl; whole_ends = refl; left_ends = refl }

-- ---- "Checked in this order; the lowest that applies is given, and none is given otherwise."

abbrev numbered : {A : Type 0} → Answer A → ℕ
numbered (refused r) = number r
numbered (given a) = 0

abbrev session : (radius f : Float) → Phase → Session
session radius f phase = record { settings = by_default 1 5; state = in_phase phase (begin radius f) }

-- a proposal asked of a session at the station's vectors but for the point, and an answer of F to one
abbrev asked : (radius f : Float) → Phase → ℕ → (point : List Float) → ℕ
asked radius f phase n point = numbered (proposal chosen (session radius f phase) n point station.lent.gradient station.lent.hessian point point station.lent.scratch)

abbrev told : Phase → (n : ℕ) (F : Float) → ℕ
told phase n F = numbered (judgement (session one one phase) n F (one ∷ []) (one ∷ []))

-- each call has the faults of those after it too, as far as it can
pub lowest :
    asked nan one AwaitingDerivatives 3 (nan ∷ one ∷ [])
    ∷ asked nan one AwaitingDerivatives 2 (nan ∷ one ∷ [])
    ∷ asked nought one AwaitingDerivatives 2 (nan ∷ one ∷ [])
    ∷ asked nought one Ready 2 (nan ∷ one ∷ [])
    ∷ asked nought one Ready 2 (one ∷ one ∷ [])
    ∷ asked (neg nought) one Ready 2 (one ∷ one ∷ [])
    ∷ asked one one Ready 2 (one ∷ one ∷ [])
    ∷ told Ready 2 (inf false)
    ∷ told Ready 1 (inf false)
    ∷ told (AwaitingCost nought (inf false)) 1 (inf false)
    ∷ told (AwaitingCost nought (inf false)) 1 two
    ∷ told (AwaitingCost nought (inf false)) 1 nan
    ∷ []
    ≡ 1 ∷ 2 ∷ 3 ∷ 4 ∷ 5 ∷ 5 ∷ 0 ∷ 1 ∷ 3 ∷ 4 ∷ 8 ∷ 0 ∷ []
unfolding station proposal judgement Choice.kernel of_bits add sub mul div neg lt le eq is_nan
lowest = refl

-- ---- request Five: hidden trials in a row

-- at the station's vectors, with an allowance and a count
abbrev counting : (radius : Float) → Phase → (allowance count : ℕ) → Session
counting radius phase allowance count = record { settings = allowing allowance (by_default 1 5); state = moved (begin radius one) radius one phase count }

abbrev asked_again : (radius : Float) → Phase → (allowance count : ℕ) → (point : List Float) → ℕ
asked_again radius phase allowance count point =
    numbered (proposal chosen (counting radius phase allowance count) 2 point station.lent.gradient station.lent.hessian point point station.lent.scratch)

-- 5 and then 9 at the allowance, neither below it; 4 before both; above it 2, before 3; the borders of the setting
pub hidden_lowest :
    asked_again nought Ready 2 2 (one ∷ one ∷ [])
    ∷ asked_again one Ready 2 2 (one ∷ one ∷ [])
    ∷ asked_again one Ready 2 1 (one ∷ one ∷ [])
    ∷ asked_again one Ready 2 2 (nan ∷ one ∷ [])
    ∷ asked_again one AwaitingDerivatives 2 2 (one ∷ one ∷ [])
    ∷ asked_again one AwaitingDerivatives 2 3 (one ∷ one ∷ [])
    ∷ asked_again one Ready 0 0 (one ∷ one ∷ [])
    ∷ asked_again one Ready 1 0 (one ∷ one ∷ [])
    ∷ asked_again one Ready 1000 1000 (one ∷ one ∷ [])
    ∷ asked_again one Ready 1001 0 (one ∷ one ∷ [])
    ∷ numbered (judgement (counting one Ready 2 3) 1 nan (one ∷ []) (one ∷ []))
    ∷ numbered (renewal (counting one Ready 2 3) 1 (one ∷ []) (one ∷ []) (one ∷ []) (one ∷ []))
    ∷ []
    ≡ 5 ∷ 9 ∷ 0 ∷ 4 ∷ 3 ∷ 2 ∷ 2 ∷ 0 ∷ 9 ∷ 2 ∷ 2 ∷ 2 ∷ []
unfolding station proposal judgement renewal Choice.kernel of_bits add sub mul div neg lt le eq is_nan
hidden_lowest = refl

-- the station of above, with an allowance
abbrev patient : ℕ → Station
patient allowance = record { session = record { settings = allowing allowance (by_default 1 5); state = station.session.state }; lent = station.lent }

-- the refusals of a run, 0 where a call is taken, and the count at its end
abbrev numbers : Station → List Call → List ℕ
numbers s cs = map (λ (e : Entry). numbered e.reply) (run (respond chosen) s cs)

abbrev count_of : Station → List Call → ℕ
count_of s cs = (final (respond chosen) s cs).session.state.count

-- a hidden trial, with a call inside it that is refused by 3
abbrev hidden : List Call
hidden = call (propose 2) ∷ call (cost 3 nan) ∷ call (cost 2 nan) ∷ []

-- Two are taken and the third is not proposed; another answer ends the row, and derivatives do; a NaN that is refused leaves the count.
pub record Counted : Type 0 where
  pub stopped : numbers (patient 2) (hidden ++ hidden ++ hidden) ≡ 0 ∷ 1 ∷ 0 ∷ 0 ∷ 1 ∷ 0 ∷ 9 ∷ 1 ∷ 3 ∷ []
  pub full : count_of (patient 2) (hidden ++ hidden) ≡ 2
  pub other : count_of (patient 2) (hidden ++ call (propose 2) ∷ call (cost 2 (10 over 1)) ∷ []) ≡ 0
  pub taken : count_of (record { session = counting one AwaitingDerivatives 2 2; lent = station.lent }) (call (derivatives 2 (one ∷ one ∷ []) (one ∷ one ∷ one ∷ one ∷ [])) ∷ []) ≡ 0
  pub left : count_of (patient 2) (hidden ++ call (cost 2 nan) ∷ []) ≡ 1

pub counted_right : Counted
unfolding station ◌over◌ zeros respond Choice.kernel of_bits add sub mul div neg lt le eq is_nan
counted_right = record { stopped = refl; full = refl; other = refl; taken = refl; left = refl }

-- ---- without its premise demand 3 would be wrong

-- One hidden trial is allowed. In the whole run the second proposal is refused by 9; with the hidden trial struck out, it is made.
abbrev breaking : List Call
breaking = call (propose 2) ∷ call (cost 2 nan) ∷ call (propose 2) ∷ []

pub record Breaks : Type 0 where
  pub lent : lent_same (run (respond chosen) (patient 1) breaking) ≡ true
  pub reaches : never_reaches 1 0 (run (respond chosen) (patient 1) breaking) ≡ false
  pub struck_was : map (λ (e : Entry). numbered e.reply) (strike (run (respond chosen) (patient 1) breaking)) ≡ 9 ∷ []
  pub struck_is : numbers (patient 1) (calls (strike (run (respond chosen) (patient 1) breaking))) ≡ 0 ∷ []

pub breaks : Breaks
unfolding station ◌over◌ zeros respond Choice.kernel of_bits add sub mul div neg lt le eq is_nan
breaks = record { lent = refl; reaches = refl; struck_was = refl; struck_is = refl }

thinned_refl : (es : List Entry) → Thinned es es
thinned_refl [] = none
thinned_refl (e ∷ es) = keep e (thinned_refl es)

abbrev Unguarded : Type 0
Unguarded =
    (start : Station) → T (not (awaits_cost start.session.state.phase))
    → (whole : List Call) → T (lent_same (run (respond chosen) start whole))
    → (kept : List Entry) → Thinned (strike (run (respond chosen) start whole)) kept
    → Same_run chosen start whole kept

idle : T (not (awaits_cost (patient 1).session.state.phase))
unfolding station
idle = tt

pub premise_needed : Unguarded → ⊥
premise_needed claim =
    let left = strike (run (respond chosen) (patient 1) breaking) in
    let same = (claim (patient 1) idle breaking (subst T (sym breaks.lent) tt) left (thinned_refl left)).replies in
    let z : ◌≡◌ {A = List ℕ} (0 ∷ []) (9 ∷ []) = sym breaks.struck_is ∙ ap (map (λ (e : Entry). numbered e.reply)) same ∙ breaks.struck_was in
    let n : ◌≡◌ {A = ℕ} 0 9 = cc in
    omega arith
