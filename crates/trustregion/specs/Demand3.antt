-- Demand 3 of the request, its sentences in their order, for any choice of kernels by the settings. Definitions only: `Demand3.for_our_kernels`, in proofs/, proves it of ours.
use Rattle.std.specs.Prelude.{◌≡◌, true, not, List, [], ℕ, T, length, Float}
use Rattle.std.specs.Float.{binary64}
use Rattle.std.specs.Float.Ieee.{fits, lt, le}
use Rattle.float.specs.Numbers.{◌⊖◌}
use Rattle.float.specs.Constants.{nought}
use Rattle.vectors.specs.Refusal.{refused, given}
use Rattle.vectors.specs.declared.refusal.Refusal.TheVariants.{Hidden}
use Rattle.kernels.specs.Kernel.{Kernel}
use Rattle.offer.specs.State.{awaits_cost, Promise}
use Rattle.offer.specs.Run.{Trial, run, final, calls, lent_same, Thinned, Every}
use Rattle.trustregion.specs.Run.{Station, propose, Call, Entry, respond, opens_trial, never_reaches, strike, trials, seen}
use Rattle.trustregion.specs.declared.settings.Settings.{Settings}

-- "Each accepted trial has a ratio above eta; if its predicted fall is above zero, its cost is strictly below the one before." "Predicted fall is f − m."
pub record Fair (eta : Float) (t : Trial) : Type 0 where
  pub above_eta : t.accepted ≡ true → T (lt eta t.ratio)
  pub falls : t.accepted ≡ true → (p : Promise) → t.promise ≡ given p → T (lt nought (t.before ⊖ p.value)) → T (lt t.cost t.before)

-- "If radius and ‖p‖ are both at most max_radius, so is the next radius." Every f64 fits.
abbrev pub Within : (max_radius : Float) → Trial → Type 0
Within max_radius t =
    (p : Promise) → t.promise ≡ given p → T (fits binary64 p.norm)
    → T (le t.radius_before max_radius) → T (le p.norm max_radius) → T (le t.radius max_radius)

module _ (kernel : Settings → Kernel) where
  -- The run of the calls `whole` from `start`, and "the shorter run, from the same start with the same other answers", of the calls of `kept`.
  pub record Same_run (start : Station) (whole : List Call) (kept : List Entry) : Type 0 where
    -- "gives the same proposals, ratios, verdicts and radii at the kept trials": each call is answered as it was,
    pub replies : run (respond kernel) start (calls kept) ≡ kept
    -- and its trials are those of the whole run that were not answered with NaN
    pub kept_trials : trials kept ≡ seen (trials (run (respond kernel) start whole))
    -- "and ends with the same phase, radius, point, cost, gradient and Hessian"
    pub phase : (final (respond kernel) start (calls kept)).session.state.phase ≡ (final (respond kernel) start whole).session.state.phase
    pub radius : (final (respond kernel) start (calls kept)).session.state.radius ≡ (final (respond kernel) start whole).session.state.radius
    pub point : (final (respond kernel) start (calls kept)).lent.point ≡ (final (respond kernel) start whole).lent.point
    pub cost : (final (respond kernel) start (calls kept)).session.state.cost ≡ (final (respond kernel) start whole).session.state.cost
    pub gradient : (final (respond kernel) start (calls kept)).lent.gradient ≡ (final (respond kernel) start whole).lent.gradient
    pub hessian : (final (respond kernel) start (calls kept)).lent.hessian ≡ (final (respond kernel) start whole).lent.hessian

  pub record Demand_3 : Type 0 where
    -- "In a `TrustRegion` session that is lent the same vectors, besides the answers, at every call not refused by 1, .. strike out every trial answered with NaN, with the refused calls inside it. .. Other refused calls may be struck too."
    -- The start is any station that is not inside a trial. "Demand 3 then holds for runs in which the longer run never reaches the setting, and the count is left out of its comparison."
    pub struck :
        (start : Station) → T (not (awaits_cost start.session.state.phase))
        → (whole : List Call) → T (lent_same (run (respond kernel) start whole))
        → T (never_reaches start.session.settings.allowance start.session.state.count (run (respond kernel) start whole))
        → (kept : List Entry) → Thinned (strike (run (respond kernel) start whole)) kept
        → Same_run start whole kept
    pub fair : (start : Station) (whole : List Call) → Every (Fair start.session.settings.eta) (trials (run (respond kernel) start whole))
    pub within : (start : Station) (whole : List Call) → Every (Within start.session.settings.max_radius) (trials (run (respond kernel) start whole))

  -- ---- what request Five is for: "a session with a permanently hidden marker repeats one proposal all night"

  -- At the end of `whole` the next proposal is refused by 9, and nothing else has moved since `start`: not by the run, but for the count and what step, trial and scratch hold, and not by that call.
  pub record Stopped (start : Station) (n : ℕ) (whole : List Call) : Type 0 where
    pub refuses : (respond kernel (propose n) (final (respond kernel) start whole)).reply ≡ refused Hidden
    pub leaves : (respond kernel (propose n) (final (respond kernel) start whole)).after ≡ final (respond kernel) start whole
    pub settings : (final (respond kernel) start whole).session.settings ≡ start.session.settings
    pub phase : (final (respond kernel) start whole).session.state.phase ≡ start.session.state.phase
    pub radius : (final (respond kernel) start whole).session.state.radius ≡ start.session.state.radius
    pub cost : (final (respond kernel) start whole).session.state.cost ≡ start.session.state.cost
    pub point : (final (respond kernel) start whole).lent.point ≡ start.lent.point
    pub gradient : (final (respond kernel) start whole).lent.gradient ≡ start.lent.gradient
    pub hessian : (final (respond kernel) start whole).lent.hessian ≡ start.lent.hessian

  -- The start has a count of 0 and makes a proposal; as many trials as are allowed follow, each answered with NaN, with any refused calls among them, and none is open at the end.
  abbrev pub Too_hidden : Type 0
  Too_hidden =
      (start : Station) (n : ℕ) → start.session.state.count ≡ 0 → T (opens_trial (respond kernel (propose n) start).reply)
      → (whole : List Call) → seen (trials (run (respond kernel) start whole)) ≡ [] → length (trials (run (respond kernel) start whole)) ≡ start.session.settings.allowance
      → T (not (awaits_cost (final (respond kernel) start whole).session.state.phase))
      → Stopped start n whole
