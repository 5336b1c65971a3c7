-- Document 01's "Marked cases", in its order, and behind them those of requests Six and Seven. Definitions only; that each definition gives what its case wants is proofs/Marked.antt.
use Rattle.std.specs.Prelude.{true, false, List, [], ◌∷◌, ℕ, ◌^◌, Float}
use Rattle.std.specs.Float.{binary64}
use Rattle.std.specs.Float.Ieee.{round}
use Rattle.float.specs.Constants.{nought, one, two, half, quarter, eighth, hundred, billionth}
use Rattle.vectors.specs.Vector.{zeros}
use Rattle.vectors.specs.Refusal.{Answer, refused, given, room}
use Rattle.vectors.specs.declared.refusal.Refusal.TheVariants.{Pivot, Range}
use Rattle.kernels.specs.Kernel.{Made, made}
use Rattle.kernels.specs.Choice.{by_default}
use Rattle.kernels.specs.CauchyPoint.{cauchy_point}
use Rattle.kernels.specs.Dogleg.{dogleg}
use Rattle.kernels.specs.Textbook.{textbook_dogleg}
use Rattle.kernels.specs.Steihaug.{steihaug}
use Rattle.trustregion.specs.Settings.{settings_of}
use Rattle.trustregion.specs.Session.{Session, Judgement, judgement}
use Rattle.offer.specs.declared.state.Phase.{Phase}
use Rattle.offer.specs.declared.state.Phase.TheVariants.{Ready, AwaitingCost, AwaitingDerivatives}
use Rattle.sr1.specs.Settings as sr1_settings
use Rattle.sr1.specs.Session as sr1
use Rattle.sr1.specs.Session.{Session as Sr1}

infix 30 ◌over◌
infix 30 minus◌over◌
-- a / b and −(a / b), rounded once
unfoldable pub ◌over◌ : ℕ → ℕ → Float
unfolding round
a over b = round binary64 false a b

unfoldable pub minus◌over◌ : ℕ → ℕ → Float
unfolding round
minus a over b = round binary64 true a b

-- a kernel's answer, a TrustRegion session's to a cost, and an SR1TrustRegion session's to a cost and a gradient
pub data Found : Type 0 where
  kernel : Answer Made → Found
  session : Answer Judgement → Found
  sr1_session : Answer sr1.Judgement → Found

-- what a definition gives, and what the case wants
pub record Case : Type 0 where
  pub gives : Found
  pub wants : Found

-- "g = (3, 4); I the identity"
abbrev pub g : List Float
g = (3 over 1) ∷ (4 over 1) ∷ []

abbrev pub I : List Float
I = one ∷ nought ∷ nought ∷ one ∷ []

abbrev -I : List Float
-I = (minus 1 over 1) ∷ nought ∷ nought ∷ (minus 1 over 1) ∷ []

-- a step of these numbers, in so many passes
abbrev steps_to : ℕ → List Float → Found
steps_to k step = kernel (given (made k step))

-- the steps (−3, −4), (−1.5, −2), (−0, −0) and (0, 0), in so many passes
abbrev whole_step : ℕ → Found
whole_step k = steps_to k ((minus 3 over 1) ∷ (minus 4 over 1) ∷ [])

abbrev half_step : ℕ → Found
half_step k = steps_to k ((minus 3 over 2) ∷ (minus 2 over 1) ∷ [])

abbrev zero_step : Found
zero_step = steps_to 0 (nought ∷ nought ∷ [])

abbrev minus_zero_step : Found
minus_zero_step = steps_to 0 ((minus 0 over 1) ∷ (minus 0 over 1) ∷ [])

-- a session of the defaults but for max_radius: radius 2.5, and "f 10"
abbrev session_of : (max_radius radius f : Float) → Phase → Session
session_of max_radius radius f phase = record {
  settings = settings_of (by_default 1 5) one max_radius eighth;
  state = record { radius = radius; cost = f; phase = phase; count = 0 };
}

-- it awaits the cost of the trial (2) at the point (1), with the model value m and "‖p‖ = radius = 2.5", and is answered F
abbrev answered : (max_radius m F : Float) → Found
answered max_radius m F = session (judgement (session_of max_radius (5 over 2) (10 over 1) (AwaitingCost m (5 over 2))) 1 F (one ∷ []) (two ∷ []))

-- the verdict by a ratio, and the radius after it
abbrev rejected : (max_radius ratio radius : Float) → Found
rejected max_radius ratio radius = session (given (record { session = session_of max_radius radius (10 over 1) Ready; point = one ∷ []; ratio = ratio; accepted = false }))

abbrev accepted : (max_radius ratio radius F : Float) → Found
accepted max_radius ratio radius F = session (given (record { session = session_of max_radius radius F AwaitingDerivatives; point = two ∷ []; ratio = ratio; accepted = true }))

-- an SR1TrustRegion session at radius 1, by an edition: f 10
abbrev sr1_of : (edition : ℕ) → (f : Float) → Phase → Sr1
sr1_of edition f phase = record { settings = sr1_settings.updating edition (sr1_settings.by_default 1 5); state = record { radius = one; cost = f; phase = phase; count = 0 } }

-- "SR1, I, s (1, 0)", answered F 9 and the gradient G at the trial (1, 0) of the point (0, 0), with P 2 and ‖s‖ 1
abbrev updated : (edition : ℕ) → (G : List Float) → Found
updated edition G =
    sr1_session (sr1.judgement (sr1_of edition (10 over 1) (AwaitingCost two one)) 2 (9 over 1) G
    (nought ∷ nought ∷ []) (one ∷ nought ∷ []) (one ∷ nought ∷ []) g I (zeros (room 2)))

-- accepted, with the Hessian of this diagonal
abbrev diagonal : (edition : ℕ) → (G : List Float) (a b : Float) → Found
diagonal edition G a b = sr1_session (given (record {
  session = sr1_of edition (9 over 1) Ready;
  point = one ∷ nought ∷ [];
  gradient = G;
  hessian = a ∷ nought ∷ nought ∷ b ∷ [];
  ratio = half;
  accepted = true;
}))

-- "15. G − g (1, 1): q is 0, refusal 8."
abbrev case_15 : Case
case_15 = record { gives = updated 1 ((4 over 1) ∷ (5 over 1) ∷ []); wants = sr1_session (refused Range) }

unfoldable pub cases : List Case
unfolding ◌over◌ minus◌over◌ zeros cauchy_point dogleg steihaug judgement sr1.judgement
cases =
    -- 1. Cauchy, I, radius 10: (−3, −4). 2. Radius 2.5: (−1.5, −2). 3. Cauchy, −I, 2.5: (−1.5, −2).
    record { gives = kernel (cauchy_point 2 (10 over 1) g I); wants = whole_step 0 }
    ∷ record { gives = kernel (cauchy_point 2 (5 over 2) g I); wants = half_step 0 }
    ∷ record { gives = kernel (cauchy_point 2 (5 over 2) g -I); wants = half_step 0 }
    -- 4. Dogleg, I, 5: (−3, −4). 5. Dogleg, I, 1: (−0, −0).
    ∷ record { gives = kernel (dogleg 2 (5 over 1) g I); wants = whole_step 0 }
    ∷ record { gives = kernel (dogleg 2 (1 over 1) g I); wants = minus_zero_step }
    -- 6. Steihaug, I, 10, limit 5: (−3, −4), 1 pass. 7. Radius 2.5: (−1.5, −2), 1 pass. 8. −I, 2.5: (−1.5, −2). 9. Limit 0: (0, 0), 0 passes.
    ∷ record { gives = kernel (steihaug billionth 5 2 (10 over 1) g I); wants = whole_step 1 }
    ∷ record { gives = kernel (steihaug billionth 5 2 (5 over 2) g I); wants = half_step 1 }
    ∷ record { gives = kernel (steihaug billionth 5 2 (5 over 2) g -I); wants = half_step 1 }
    ∷ record { gives = kernel (steihaug billionth 0 2 (10 over 1) g I); wants = zero_step }
    -- 10. f 10, m 6, F 9.5, eta 0.125: rho 0.125, rejected, radius 0.25·‖p‖. 11. F 9: 0.25, accepted, kept.
    ∷ record { gives = answered hundred (6 over 1) (19 over 2); wants = rejected hundred eighth (5 over 8) }
    ∷ record { gives = answered hundred (6 over 1) (9 over 1); wants = accepted hundred quarter (5 over 2) (9 over 1) }
    -- 12. F 6, ‖p‖ = radius = 2.5, max 4: radius 4. 13. f 10, m 14, F 12: 0.5, accepted uphill.
    ∷ record { gives = answered (4 over 1) (6 over 1) (6 over 1); wants = accepted (4 over 1) one (4 over 1) (6 over 1) }
    ∷ record { gives = answered hundred (14 over 1) (12 over 1); wants = accepted hundred half (5 over 2) (12 over 1) }
    -- 14. SR1, I, s (1, 0), G − g (3, 0): diagonal 3, 1. 15. G − g (1, 1): q is 0, refusal 8.
    ∷ record { gives = updated 1 ((6 over 1) ∷ (4 over 1) ∷ []); wants = diagonal 1 ((6 over 1) ∷ (4 over 1) ∷ []) (3 over 1) one }
    ∷ case_15
    ∷ []

-- a matrix of ones, which has no inverse
abbrev ones : List Float
ones = one ∷ one ∷ one ∷ one ∷ []

-- "With g = (3, 4), I and radius 2.5 it gives (−1.5, −2)."
unfoldable pub textbook_example : Case
unfolding ◌over◌ minus◌over◌ textbook_dogleg
textbook_example = record { gives = kernel (textbook_dogleg 2 (5 over 2) g I); wants = half_step 0 }

-- The input of case 5, I and 1: (−0.6000000000000001, −0.8), where the ported one stands still.
unfoldable pub textbook_moves : Case
unfolding ◌over◌ minus◌over◌ textbook_dogleg
textbook_moves = record { gives = kernel (textbook_dogleg 2 (1 over 1) g I); wants = steps_to 0 ((minus 5404319552844596 over 2 ^ 53) ∷ (minus 7205759403792794 over 2 ^ 53) ∷ []) }

-- I, 5: ‖pb‖ is the radius, (−3, −4).
unfoldable pub textbook_whole : Case
unfolding ◌over◌ minus◌over◌ textbook_dogleg
textbook_whole = record { gives = kernel (textbook_dogleg 2 (5 over 1) g I); wants = whole_step 0 }

-- No inverse is taken where g·H·g is not above 0, so that none is refused; where it is above 0 it is.
unfoldable pub textbook_inverses : List Case
unfolding ◌over◌ minus◌over◌ zeros textbook_dogleg
textbook_inverses =
    record { gives = kernel (textbook_dogleg 2 (5 over 2) g -I); wants = half_step 0 }
    ∷ record { gives = kernel (textbook_dogleg 2 (5 over 2) g (zeros 4)); wants = half_step 0 }
    ∷ record { gives = kernel (textbook_dogleg 2 (5 over 2) g ones); wants = kernel (refused Pivot) }
    ∷ []

-- A first leg that is zero, for radius/‖pu‖ is below every f64: 2^400, 2^-100, radius 2^-1074.
unfoldable pub textbook_zero : Case
unfolding ◌over◌ minus◌over◌ textbook_dogleg
textbook_zero = record { gives = kernel (textbook_dogleg 1 (1 over 2 ^ 1074) ((2 ^ 400 over 1) ∷ []) ((1 over 2 ^ 100) ∷ [])); wants = steps_to 0 ((minus 0 over 1) ∷ []) }

-- "Document 01's case 15 under edition 2 leaves H as it is and is no refusal"; beside it the same input under edition 1, and case 14 under edition 2.
unfoldable pub editions : List Case
unfolding ◌over◌ minus◌over◌ zeros sr1.judgement
editions =
    record { gives = updated 2 ((4 over 1) ∷ (5 over 1) ∷ []); wants = diagonal 2 ((4 over 1) ∷ (5 over 1) ∷ []) one one }
    ∷ case_15
    ∷ record { gives = updated 2 ((6 over 1) ∷ (4 over 1) ∷ []); wants = diagonal 2 ((6 over 1) ∷ (4 over 1) ∷ []) (3 over 1) one }
    ∷ []
