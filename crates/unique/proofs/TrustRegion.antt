-- crates/trustregion: each contract has one result. Assumes nothing.
use mathlib.Core.Path.{◌≡◌, refl}
use mathlib.Core.List.{List, [], ◌∷◌}
use lib.Ieee.{Float}
use Rattle.vectors.specs.Refusal.{Answer}
use Rattle.offer.specs.Run.{Does}
use Rattle.trustregion.specs.Settings.{chosen}
use Rattle.trustregion.specs.Session.{Session, Judgement, Renewal}
use Rattle.trustregion.specs.Calls.{After, Judges, Renews}
use Rattle.trustregion.specs.Run.{propose, cost, derivatives, outcome, respond}
use Rattle.unique.proofs.Offer.{proposes}
use Rattle.unique.proofs.Law.{Contract, Fact, States, states, Line, unique, equation, alike, ◌&◌}
use Rattle.trustregion.specs.contracts.settings as settings
use Rattle.trustregion.specs.contracts.session as session
use Rattle.trustregion.specs.contracts.trustregion_method as method
use Rattle.trustregion.specs.contracts.in_place as place
use Rattle.trustregion.proofs.Calls.{run_proposes, run_judges, run_renews}

pub judges : {s : Session} {r r₂ : After} {a : Answer Judgement} {point point₁ point₂ : List Float} → Judges a s point r point₁ → Judges a s point r₂ point₂ → (r ≡ r₂) × (point₁ ≡ point₂)
judges p q = (alike p.says q.says, alike p.leaves_point q.leaves_point)

pub renews : {s : Session} {r r₂ : After} {a : Answer Renewal} {gradient hessian gradient₁ hessian₁ gradient₂ hessian₂ : List Float}
    → Renews a s gradient hessian r gradient₁ hessian₁ → Renews a s gradient hessian r₂ gradient₂ hessian₂ → (r ≡ r₂) × (gradient₁ ≡ gradient₂) × (hessian₁ ≡ hessian₂)
renews p q = (alike p.says q.says, alike p.leaves_gradient q.leaves_gradient, alike p.leaves_hessian q.leaves_hessian)

pub table : List Line
table =
    equation settings.Settings.new.ended (λ M 𝓤. settings.Settings.new.spec) (λ w κs a g r. refl) (λ κs a s s₂. refl)
    ∷ equation settings.Settings.of.ended (λ M 𝓤. settings.Settings.of.spec) (λ w κs a g r. refl) (λ κs a s s₂. refl)
    ∷ equation settings.Settings.with_allowance.ended (λ M 𝓤. settings.Settings.with_allowance.spec) (λ w κs a g r. refl) (λ κs a s s₂. refl)
    ∷ equation settings.in_range.ended (λ M 𝓤. settings.in_range.spec) (λ w κs a g r. refl) (λ κs a s s₂. refl)
    ∷ equation settings.SettingsKind.in_range.ended (λ M 𝓤. settings.SettingsKind.in_range.spec) (λ w κs a g r. refl) (λ κs a s s₂. refl)
    ∷ equation settings.SettingsKind.choice.ended (λ M 𝓤. settings.SettingsKind.choice.spec) (λ w κs a g r. refl) (λ κs a s s₂. refl)
    ∷ equation settings.SettingsKind.allowance.ended (λ M 𝓤. settings.SettingsKind.allowance.spec) (λ w κs a g r. refl) (λ κs a s s₂. refl)
    ∷ equation settings.SettingsKind.first_radius.ended (λ M 𝓤. settings.SettingsKind.first_radius.spec) (λ w κs a g r. refl) (λ κs a s s₂. refl)
    ∷ equation settings.SettingsKind.promise.ended (λ M 𝓤. settings.SettingsKind.promise.spec) (λ w κs a g r. refl) (λ κs a s s₂. refl)
    ∷ equation session.sound.ended (λ M 𝓤. session.sound.spec) (λ w κs a g r. refl) (λ κs a s s₂. refl)
    ∷ equation method.start.ended (λ M 𝓤. method.start.spec) (λ w κs a g r. refl) (λ κs a s s₂. refl)
    ∷ unique method.proposed.ended (λ M 𝓤. method.proposed.spec) (λ w κs a g r. refl) (λ κs a r r₂ s s₂ p q. let e = proposes p q in (e.0, λ i. tt & tt & tt & tt & tt & e.1 i & e.2 i & e.3 i & tt))
    ∷ unique method.judged.ended (λ M 𝓤. method.judged.spec) (λ w κs a g r. refl) (λ κs a r r₂ s s₂ p q. let e = judges p q in (e.0, λ i. tt & tt & tt & e.1 i & tt & tt))
    ∷ unique method.renewed.ended (λ M 𝓤. method.renewed.spec) (λ w κs a g r. refl) (λ κs a r r₂ s s₂ p q. let e = renews p q in (e.0, λ i. tt & tt & tt & tt & e.1 i & e.2 i & tt))
    ∷ unique place.propose.ended (λ M 𝓤. place.propose.spec) (λ w κs a g r. refl) (λ κs a r r₂ s s₂ p q. let e = proposes p q in ((λ i. (e.0 i).outcome), λ i. (e.0 i).session & tt & tt & tt & tt & e.1 i & e.2 i & e.3 i & tt))
    ∷ unique place.answer_cost.ended (λ M 𝓤. place.answer_cost.spec) (λ w κs a g r. refl) (λ κs a r r₂ s s₂ p q. let e = judges p q in ((λ i. (e.0 i).outcome), λ i. (e.0 i).session & tt & tt & e.1 i & tt & tt))
    ∷ unique place.answer_derivatives.ended (λ M 𝓤. place.answer_derivatives.spec) (λ w κs a g r. refl) (λ κs a r r₂ s s₂ p q. let e = renews p q in ((λ i. (e.0 i).outcome), λ i. (e.0 i).session & tt & tt & tt & e.1 i & e.2 i & tt))
    ∷ []

-- ---- The calls by `&mut` do what a run has, at a station with the session and the vectors that they were lent; the others are any.

abbrev propose_contract : Contract place.propose.ended
propose_contract M 𝓤 = place.propose.spec

abbrev cost_contract : Contract place.answer_cost.ended
cost_contract M 𝓤 = place.answer_cost.spec

abbrev derivatives_contract : Contract place.answer_derivatives.ended
derivatives_contract M 𝓤 = place.answer_derivatives.spec

abbrev pub Proposes_so : Fact place.propose.ended
Proposes_so κs a r left =
    let (s, (n, (point, (gradient, (hessian, (step, (trial, (scratch, _)))))))) = a in
    let (s', (_, (_, (_, (_, (step', (trial', (scratch', _)))))))) = left in
    Does outcome (respond chosen (propose n) (record { session = s.now; lent = record { point = point.now; gradient = gradient.now; hessian = hessian.now; step = step.now; trial = trial.now; scratch = scratch.now } })) r s' (record { point = point.now; gradient = gradient.now; hessian = hessian.now; step = step'; trial = trial'; scratch = scratch' })

pub propose_runs : States place.propose.ended propose_contract Proposes_so
propose_runs = states place.propose.ended propose_contract Proposes_so (λ w κs a g r. refl) (λ κs a r s p. run_proposes chosen _ _ _ _ _ _ p)

abbrev pub Judges_so : Fact place.answer_cost.ended
Judges_so κs a r left =
    let (s, (n, (F, (point, (trial, _))))) = a in
    let (s', (_, (_, (point', _)))) = left in
    (gradient hessian step scratch : List Float)
    → Does outcome (respond chosen (cost n F) (record { session = s.now; lent = record { point = point.now; gradient = gradient; hessian = hessian; step = step; trial = trial.now; scratch = scratch } })) r s' (record { point = point'; gradient = gradient; hessian = hessian; step = step; trial = trial.now; scratch = scratch })

pub cost_runs : States place.answer_cost.ended cost_contract Judges_so
cost_runs = states place.answer_cost.ended cost_contract Judges_so (λ w κs a g r. refl) (λ κs a r s p gradient hessian step scratch. run_judges chosen _ _ _ _ _ p)

abbrev pub Renews_so : Fact place.answer_derivatives.ended
Renews_so κs a r left =
    let (s, (n, (g, (H, (gradient, (hessian, _)))))) = a in
    let (s', (_, (_, (_, (gradient', (hessian', _)))))) = left in
    (point step trial scratch : List Float)
    → Does outcome (respond chosen (derivatives n g.now H.now) (record { session = s.now; lent = record { point = point; gradient = gradient.now; hessian = hessian.now; step = step; trial = trial; scratch = scratch } })) r s' (record { point = point; gradient = gradient'; hessian = hessian'; step = step; trial = trial; scratch = scratch })

pub derivatives_runs : States place.answer_derivatives.ended derivatives_contract Renews_so
derivatives_runs = states place.answer_derivatives.ended derivatives_contract Renews_so (λ w κs a g r. refl) (λ κs a r s p point step trial scratch. run_renews chosen _ _ _ _ _ _ _ p)
