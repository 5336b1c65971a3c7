-- The `SR1TrustRegion` session of document 01, on values: what each of its calls answers, for every input, refused ones too. Definitions only.
-- A call is a function of the session, of n, and of the lent vectors as they are at entry. Its answer is a refusal, or all that the call changes.
use Rattle.std.specs.Prelude.{Bool, not, ◌&&◌, cond, List, [], ◌∷◌, ℕ, eqb, Float}
use Rattle.std.specs.Float.Ieee.{lt, le, ne, neg}
use Rattle.float.specs.Numbers.{◌⊕◌, ◌⊖◌, ◌⊗◌, ◌⊘◌, finite, magnitude}
use Rattle.float.specs.Constants.{nought, one, two, half, three_quarters, tenth, four_fifths}
use Rattle.vectors.specs.Vector as Vector
use Rattle.vectors.specs.Vector.{at, tab, flat, dot, norm, row, times, weighted, minus, all_finite}
use Rattle.vectors.specs.Refusal.{Answer, given, Check, ◌if◌, unless, then, all_hold, size, sized}
use Rattle.kernels.specs.Kernel.{Kernel}
use Rattle.vectors.specs.declared.refusal.Refusal.TheVariants.{Size, Setting, Entry, Range}
use Rattle.sr1.specs.Settings.{in_range}
use Rattle.offer.specs.Offer.{all_sized, cost_taken, proposal_checks, Offer, offer, stepping}
use Rattle.offer.specs.State.{moved, in_phase, counted, Promise, promised}
use Rattle.offer.specs.Session as any
use Rattle.offer.specs.declared.session.Session as sessions
use Rattle.sr1.specs.declared.settings.Settings.{Settings}
use Rattle.offer.specs.declared.state.State.{State}
use Rattle.offer.specs.declared.state.Phase.TheVariants.{Ready, AwaitingCost}
use Rattle.offer.specs.declared.state.Said.{Said}
use Rattle.offer.specs.declared.state.Said.TheVariants.{Done, Proposed}

abbrev pub Session : Type 0
Session = sessions.Session Settings

-- ---- what it has of every kind of session, by `offer`'s specs/Session.antt

-- "P = (−(g·s)) − 0.5·(s·H·s)"
abbrev pub predicted_fall : (slope curvature : Float) → Float
predicted_fall slope curvature = neg slope ⊖ half ⊗ curvature

-- "SR1's radius is taken by magnitude first"
abbrev pub kind : any.Kind Settings
kind = record { in_range = in_range; choice = λ t. t.choice; allowance = λ t. t.allowance; first_radius = λ t. magnitude t.radius; promise = λ f slope curvature. predicted_fall slope curvature }

-- what refusal 2 asks of it
unfoldable pub sound : Session → Bool
unfolding in_range finite
sound = any.sound kind

-- the session in another state
abbrev pub turned : Session → State → Session
turned = any.turned

unfoldable pub start : Settings → Float → Answer Session
unfolding in_range finite magnitude
start = any.start kind

-- ---- propose

pub record Proposal : Type 0 where
  pub session : Session
  pub said : Said
  pub step : List Float
  pub trial : List Float

-- "done when ‖g‖ < tol_grad"
unfoldable pub converged : Session → (gradient : List Float) → Bool
unfolding norm
converged s gradient = lt (norm gradient) s.settings.tol_grad

-- "Done" writes only scratch's zeros and leaves the session ready.
abbrev pub done : Session → (step trial : List Float) → Proposal
done s step trial = record { session = s; said = Done; step = step; trial = trial }

-- "Proposing is as above, with P .. kept in place of m."
unfoldable pub awaiting : Session → ℕ → (gradient hessian : List Float) → Offer → Proposal
unfolding dot weighted norm
awaiting s n gradient hessian o = record {
  session = turned s (in_phase (AwaitingCost (predicted_fall (dot gradient o.step) (weighted n o.step hessian o.step)) (norm o.step)) s.state);
  said = Proposed o.passes;
  step = o.step;
  trial = o.trial;
}

-- done is "tested when a proposal is asked for, after refusals 1 to 4 and before 5"; refusals 5, 9 and 6 to 8 are `stepping`'s
unfoldable pub proposal : (Settings → Kernel) → Session → ℕ → (point gradient hessian step trial scratch : List Float) → Answer Proposal
unfolding size sound all_finite converged offer awaiting
proposal kernel s n point gradient hessian step trial scratch =
    unless (proposal_checks (sound s) s.state n point gradient hessian step trial scratch)
    (cond (converged s gradient) (given (done s step trial))
    (then (λ (o : Offer). given (awaiting s n gradient hessian o)) (stepping (kernel s.settings) s.settings.allowance s.state n point gradient hessian)))

-- ---- the answer with a cost F and a gradient G

pub record Judgement : Type 0 where
  pub session : Session
  pub point : List Float
  pub gradient : List Float
  pub hessian : List Float
  pub ratio : Float
  pub accepted : Bool

-- "ap = (f − F)/P"
abbrev pub fall_ratio : (f F P : Float) → Float
fall_ratio f F P = (f ⊖ F) ⊘ P

-- "ap > 0.75 keeps it if ‖s‖ ≤ 0.8·radius, else doubles; 0.1 ≤ ap ≤ 0.75 keeps; else, NaN too, halves"
unfoldable pub next_radius : (ratio norm radius : Float) → Float
next_radius ratio norm radius =
    cond (lt three_quarters ratio) (cond (le norm (four_fifths ⊗ radius)) radius (two ⊗ radius))
    (cond (le tenth ratio && le ratio three_quarters) radius
    (half ⊗ radius))

-- "z = (G − g) − H·s .. with g the gradient before the answer"
unfoldable pub residual : ℕ → (new_gradient gradient hessian step : List Float) → List Float
unfolding minus times
residual n new_gradient gradient hessian step = minus n (minus n new_gradient gradient) (times n hessian step)

-- edition 1, "the ported rule": "|q| ≥ (factor·‖s‖)·|q|"
unfoldable pub ported_rule : (factor norm q : Float) → Bool
unfolding magnitude
ported_rule factor norm q = le (factor ⊗ norm ⊗ magnitude q) (magnitude q)

-- edition 2: "updates only if |q| ≥ (factor·‖s‖)·‖z‖ and q is not 0"
unfoldable pub book_rule : (factor norm z_norm q : Float) → Bool
unfolding magnitude
book_rule factor norm z_norm q = le (factor ⊗ norm ⊗ z_norm) (magnitude q) && ne q nought

-- Whether the Hessian is updated, by the settings' edition, where norm is the promised ‖s‖. An edition that is not 1 counts as 2, and no range lets another through.
unfoldable pub updates : Settings → (norm : Float) → (z : List Float) → (q : Float) → Bool
unfolding ported_rule book_rule Vector.norm
updates t norm z q = cond (eqb t.edition 1) (ported_rule t.factor norm q) (book_rule t.factor norm (Vector.norm z) q)

-- "each H entry gains (z_i·z_j)·(1/q)": the one in row i and column j, where share is 1/q
abbrev pub gained_at : ℕ → (hessian z : List Float) → (share : Float) → (i j : ℕ) → Float
gained_at n hessian z share i j = at (row n hessian i) j ⊕ at z i ⊗ at z j ⊗ share

unfoldable pub gained_row : ℕ → (hessian z : List Float) → (share : Float) → ℕ → List Float
unfolding tab
gained_row n hessian z share i = tab n (gained_at n hessian z share i)

unfoldable pub gained : ℕ → (hessian z : List Float) → (share : Float) → List Float
unfolding flat gained_row
gained n hessian z share = flat n (gained_row n hessian z share)

-- by z, with "q = s·z"
unfoldable pub updated_by : ℕ → Settings → (norm : Float) → (hessian step z : List Float) → List Float
unfolding dot updates gained
updated_by n t norm hessian step z = cond (updates t norm z (dot step z)) (gained n hessian z (one ⊘ dot step z)) hessian

-- the Hessian after the answer, "accepted or not"
unfoldable pub updated : ℕ → Settings → (norm : Float) → (new_gradient gradient hessian step : List Float) → List Float
unfolding residual updated_by
updated n t norm new_gradient gradient hessian step = updated_by n t norm hessian step (residual n new_gradient gradient hessian step)

-- "accept if ap > eta: the point takes the lent trial's bits, the cost F, the gradient G .. the session is ready again"
unfoldable pub settled : Session → (F ratio radius : Float) → (new_gradient point trial gradient hessian : List Float) → Judgement
settled s F ratio radius new_gradient point trial gradient hessian =
    let accepts = lt s.settings.eta ratio in
    record {
      session = turned s (moved s.state radius (cond accepts F s.state.cost) Ready (counted F s.state.count));
      point = cond accepts trial point;
      gradient = cond accepts new_gradient gradient;
      hessian = hessian;
      ratio = ratio;
      accepted = accepts;
    }

-- "for SR1's answer step, trial, g, H, G"; "trial cost infinite (NaN is taken)"
abbrev pub answer_entries : (F : Float) → (new_gradient step trial gradient hessian : List Float) → List Bool
answer_entries F new_gradient step trial gradient hessian = all_finite step ∷ all_finite trial ∷ all_finite gradient ∷ all_finite hessian ∷ all_finite new_gradient ∷ cost_taken F ∷ []

abbrev pub answer_checks : (F : Float) → (new_gradient step trial gradient hessian : List Float) → List Check
answer_checks F new_gradient step trial gradient hessian = (Entry if not (all_hold (answer_entries F new_gradient step trial gradient hessian))) ∷ []

-- "the next radius or the updated Hessian has a number that is not finite"
abbrev pub verdict_checks : (radius : Float) → (hessian : List Float) → List Check
verdict_checks radius hessian = (Range if not (finite radius && all_finite hessian)) ∷ []

-- the verdict by a ratio, the next radius that it gives, and the next Hessian
abbrev pub verdict : Session → (F ratio radius : Float) → (new_gradient point trial gradient hessian : List Float) → Answer Judgement
verdict s F ratio radius new_gradient point trial gradient hessian =
    unless (verdict_checks radius hessian) (given (settled s F ratio radius new_gradient point trial gradient hessian))

unfoldable pub judge : Session → ℕ → (F : Float) → (new_gradient point step trial gradient hessian : List Float) → Promise → Answer Judgement
unfolding next_radius updated settled all_finite finite cost_taken
judge s n F new_gradient point step trial gradient hessian p =
    unless (answer_checks F new_gradient step trial gradient hessian)
    (verdict s F (fall_ratio s.state.cost F p.value) (next_radius (fall_ratio s.state.cost F p.value) p.norm s.state.radius)
    new_gradient point trial gradient (updated n s.settings p.norm new_gradient gradient hessian step))

abbrev pub judgement_checks : Session → ℕ → (new_gradient point step trial gradient hessian scratch : List Float) → List Check
judgement_checks s n new_gradient point step trial gradient hessian scratch =
    (Size if not (all_hold (all_sized n point gradient hessian step trial scratch ∷ sized n new_gradient ∷ [])))
    ∷ (Setting if not (sound s))
    ∷ []

-- refusal 3 is `promised`'s
unfoldable pub judgement : Session → ℕ → Float → (new_gradient point step trial gradient hessian scratch : List Float) → Answer Judgement
unfolding size sound judge
judgement s n F new_gradient point step trial gradient hessian scratch =
    unless (judgement_checks s n new_gradient point step trial gradient hessian scratch)
    (then (judge s n F new_gradient point step trial gradient hessian) (promised s.state.phase))
