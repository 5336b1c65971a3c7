-- What every session that offers a step shares. Definitions only.
use Rattle.std.specs.Prelude.{Bool, not, ◌&&◌, ◌||◌, List, [], ◌∷◌, ℕ, ◌*◌, eqb, Float}
use Rattle.std.specs.Float.Ieee.{eq, is_nan}
use Rattle.float.specs.Numbers.{finite}
use Rattle.float.specs.Constants.{nought}
use Rattle.vectors.specs.Vector.{plus, all_finite}
use Rattle.vectors.specs.Refusal.{Answer, given, Check, ◌if◌, unless, then, all_hold, size, sized, room}
use Rattle.kernels.specs.Kernel.{Made, Kernel}
use Rattle.vectors.specs.declared.refusal.Refusal.TheVariants.{Size, Setting, Turn, Entry, Radius, Range, Hidden}
use Rattle.offer.specs.State.{is_ready}
use Rattle.offer.specs.declared.state.State.{State}

-- "n is 1 to 64. Vectors have n numbers, matrices n·n by rows, scratch 2·n·n + 8·n, each exactly."
abbrev pub all_sized : ℕ → (point gradient hessian step trial scratch : List Float) → Bool
all_sized n point gradient hessian step trial scratch =
    all_hold (size n ∷ sized n point ∷ sized n gradient ∷ sized (n * n) hessian ∷ sized n step ∷ sized n trial ∷ sized (room n) scratch ∷ [])

-- not "trial cost infinite (NaN is taken)"
unfoldable pub cost_taken : (F : Float) → Bool
unfolding finite
cost_taken F = finite F || is_nan F

-- a start "takes settings and cost only": `ranged` says that its settings are in range
abbrev pub start_checks : (ranged : Bool) → (f : Float) → List Check
start_checks ranged f = (Setting if not ranged) ∷ (Entry if not (finite f)) ∷ []

-- ---- propose

-- refusals 1 to 4 of a proposal; `sound` says that refusal 2 finds nothing in the session
abbrev pub proposal_checks : (sound : Bool) → State → ℕ → (point gradient hessian step trial scratch : List Float) → List Check
proposal_checks sound state n point gradient hessian step trial scratch =
    (Size if not (all_sized n point gradient hessian step trial scratch))
    ∷ (Setting if not sound)
    ∷ (Turn if not (is_ready state.phase))
    ∷ (Entry if not (all_finite point && all_finite gradient && all_finite hessian))
    ∷ []

-- what a proposal hands out
pub record Offer : Type 0 where
  pub step : List Float
  pub trial : List Float
  pub passes : ℕ

-- "writes step and trial = step + point"
abbrev pub offered : ℕ → (point : List Float) → Made → Offer
offered n point m = record { step = m.step; trial = plus n m.step point; passes = m.passes }

-- "8: the step, its norm, the trial point .. has a number that is not finite": the kernel has refused the step and its norm.
abbrev pub offer_checks : Offer → List Check
offer_checks o = (Range if not (all_finite o.trial)) ∷ []

unfoldable pub offer : ℕ → (point : List Float) → Made → Answer Offer
unfolding plus all_finite
offer n point m = unless (offer_checks (offered n point m)) (given (offered n point m))

-- "5: a proposal from a session whose radius is zero"; "9, a proposal when the count equals the setting, checked after 5"
abbrev pub step_checks : (allowance : ℕ) → State → List Check
step_checks allowance state = (Radius if eq state.radius nought) ∷ (Hidden if eqb state.count allowance) ∷ []

-- "propose runs the kernel, writes step and trial = step + point"
abbrev pub stepping : Kernel → (allowance : ℕ) → State → ℕ → (point gradient hessian : List Float) → Answer Offer
stepping kernel allowance state n point gradient hessian = unless (step_checks allowance state) (then (offer n point) (kernel n state.radius gradient hessian))
