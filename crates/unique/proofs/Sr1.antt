-- crates/sr1: each contract has one result. Assumes nothing.
use mathlib.Core.Path.{◌≡◌, refl}
use mathlib.Core.List.{List, [], ◌∷◌}
use lib.Ieee.{Float}
use Rattle.vectors.specs.Refusal.{Answer}
use Rattle.offer.specs.Run.{Does}
use Rattle.sr1.specs.Settings.{chosen}
use Rattle.sr1.specs.Session.{Session, Proposal, Judgement}
use Rattle.sr1.specs.Calls.{After, Proposes, Judges}
use Rattle.sr1.specs.Run.{propose, answer, outcome, respond}
use Rattle.unique.proofs.Law.{Contract, Fact, States, states, Line, unique, equation, alike, ◌&◌}
use Rattle.sr1.specs.contracts.settings as settings
use Rattle.sr1.specs.contracts.session as session
use Rattle.sr1.specs.contracts.sr1_trustregion as method
use Rattle.sr1.specs.contracts.in_place as place
use Rattle.sr1.proofs.Calls.{run_proposes, run_judges}

pub proposes : {s : Session} {r r₂ : After} {a : Answer Proposal} {step trial scratch step₁ trial₁ scratch₁ step₂ trial₂ scratch₂ : List Float}
    → Proposes a s step trial scratch r step₁ trial₁ scratch₁ → Proposes a s step trial scratch r₂ step₂ trial₂ scratch₂ → (r ≡ r₂) × (step₁ ≡ step₂) × (trial₁ ≡ trial₂) × (scratch₁ ≡ scratch₂)
proposes p q = (alike p.says q.says, alike p.leaves_step q.leaves_step, alike p.leaves_trial q.leaves_trial, alike p.leaves_scratch q.leaves_scratch)

pub judges : {s : Session} {r r₂ : After} {a : Answer Judgement} {point gradient hessian scratch point₁ gradient₁ hessian₁ scratch₁ point₂ gradient₂ hessian₂ scratch₂ : List Float}
    → Judges a s point gradient hessian scratch r point₁ gradient₁ hessian₁ scratch₁ → Judges a s point gradient hessian scratch r₂ point₂ gradient₂ hessian₂ scratch₂
    → (r ≡ r₂) × (point₁ ≡ point₂) × (gradient₁ ≡ gradient₂) × (hessian₁ ≡ hessian₂) × (scratch₁ ≡ scratch₂)
judges p q =
    (alike p.says q.says, alike p.leaves_point q.leaves_point, alike p.leaves_gradient q.leaves_gradient, alike p.leaves_hessian q.leaves_hessian, alike p.leaves_scratch q.leaves_scratch)

pub table : List Line
table =
    equation settings.Settings.new.ended (λ M 𝓤. settings.Settings.new.spec) (λ w κs a g r. refl) (λ κs a s s₂. refl)
    ∷ equation settings.Settings.of.ended (λ M 𝓤. settings.Settings.of.spec) (λ w κs a g r. refl) (λ κs a s s₂. refl)
    ∷ equation settings.Settings.with_allowance.ended (λ M 𝓤. settings.Settings.with_allowance.spec) (λ w κs a g r. refl) (λ κs a s s₂. refl)
    ∷ equation settings.Settings.with_edition.ended (λ M 𝓤. settings.Settings.with_edition.spec) (λ w κs a g r. refl) (λ κs a s s₂. refl)
    ∷ equation settings.in_range.ended (λ M 𝓤. settings.in_range.spec) (λ w κs a g r. refl) (λ κs a s s₂. refl)
    ∷ equation settings.SettingsKind.in_range.ended (λ M 𝓤. settings.SettingsKind.in_range.spec) (λ w κs a g r. refl) (λ κs a s s₂. refl)
    ∷ equation settings.SettingsKind.choice.ended (λ M 𝓤. settings.SettingsKind.choice.spec) (λ w κs a g r. refl) (λ κs a s s₂. refl)
    ∷ equation settings.SettingsKind.allowance.ended (λ M 𝓤. settings.SettingsKind.allowance.spec) (λ w κs a g r. refl) (λ κs a s s₂. refl)
    ∷ equation settings.SettingsKind.first_radius.ended (λ M 𝓤. settings.SettingsKind.first_radius.spec) (λ w κs a g r. refl) (λ κs a s s₂. refl)
    ∷ equation settings.SettingsKind.promise.ended (λ M 𝓤. settings.SettingsKind.promise.spec) (λ w κs a g r. refl) (λ κs a s s₂. refl)
    ∷ equation session.sound.ended (λ M 𝓤. session.sound.spec) (λ w κs a g r. refl) (λ κs a s s₂. refl)
    ∷ equation method.start.ended (λ M 𝓤. method.start.spec) (λ w κs a g r. refl) (λ κs a s s₂. refl)
    ∷ unique method.proposed.ended (λ M 𝓤. method.proposed.spec) (λ w κs a g r. refl) (λ κs a r r₂ s s₂ p q. let e = proposes p q in (e.0, λ i. tt & tt & tt & tt & tt & e.1 i & e.2 i & e.3 i & tt))
    ∷ unique method.judged.ended (λ M 𝓤. method.judged.spec) (λ w κs a g r. refl) (λ κs a r r₂ s s₂ p q. let e = judges p q in (e.0, λ i. tt & tt & tt & tt & e.1 i & tt & tt & e.2 i & e.3 i & e.4 i & tt))
    ∷ unique place.propose.ended (λ M 𝓤. place.propose.spec) (λ w κs a g r. refl) (λ κs a r r₂ s s₂ p q. let e = proposes p q in ((λ i. (e.0 i).outcome), λ i. (e.0 i).session & tt & tt & tt & tt & e.1 i & e.2 i & e.3 i & tt))
    ∷ unique place.answer.ended (λ M 𝓤. place.answer.spec) (λ w κs a g r. refl) (λ κs a r r₂ s s₂ p q. let e = judges p q in ((λ i. (e.0 i).outcome), λ i. (e.0 i).session & tt & tt & tt & e.1 i & tt & tt & e.2 i & e.3 i & e.4 i & tt))
    ∷ []

-- ---- The calls by `&mut` do what a run has, at the station with the session and the vectors that they were lent.

abbrev answer_contract : Contract place.answer.ended
answer_contract M 𝓤 = place.answer.spec

abbrev propose_contract : Contract place.propose.ended
propose_contract M 𝓤 = place.propose.spec

abbrev pub Judges_so : Fact place.answer.ended
Judges_so κs a r left =
    let (s, (n, (F, (G, (point, (step, (trial, (gradient, (hessian, (scratch, _)))))))))) = a in
    let (s', (_, (_, (_, (point', (_, (_, (gradient', (hessian', (scratch', _)))))))))) = left in
    Does outcome (respond chosen (answer n F G.now) (record { session = s.now; lent = record { point = point.now; gradient = gradient.now; hessian = hessian.now; step = step.now; trial = trial.now; scratch = scratch.now } })) r s' (record { point = point'; gradient = gradient'; hessian = hessian'; step = step.now; trial = trial.now; scratch = scratch' })

pub answer_runs : States place.answer.ended answer_contract Judges_so
answer_runs = states place.answer.ended answer_contract Judges_so (λ w κs a g r. refl) (λ κs a r s p. run_judges chosen _ _ _ _ _ _ _ _ _ p)

abbrev pub Proposes_so : Fact place.propose.ended
Proposes_so κs a r left =
    let (s, (n, (point, (gradient, (hessian, (step, (trial, (scratch, _)))))))) = a in
    let (s', (_, (_, (_, (_, (step', (trial', (scratch', _)))))))) = left in
    Does outcome (respond chosen (propose n) (record { session = s.now; lent = record { point = point.now; gradient = gradient.now; hessian = hessian.now; step = step.now; trial = trial.now; scratch = scratch.now } })) r s' (record { point = point.now; gradient = gradient.now; hessian = hessian.now; step = step'; trial = trial'; scratch = scratch' })

pub propose_runs : States place.propose.ended propose_contract Proposes_so
propose_runs = states place.propose.ended propose_contract Proposes_so (λ w κs a g r. refl) (λ κs a r s p. run_proposes chosen _ _ _ _ _ _ p)
