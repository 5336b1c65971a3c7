-- crates/offer: each contract has one result. Assumes nothing.
use mathlib.Core.Path.{◌≡◌, refl}
use mathlib.Core.List.{List, [], ◌∷◌}
use lib.Ieee.{Float}
use mir.Syntax.{Dict}
use denote.RattleType.{RattleType}
use Rattle.vectors.specs.Refusal.{Answer}
use Rattle.offer.specs.Session.{Proposal}
use Rattle.offer.specs.Calls.{Proposes}
use Rattle.std.specs.declared.clone.Clone as Clone
use Rattle.offer.specs.declared.session.Kind as Kind
use Rattle.offer.specs.declared.session.Session.{Session}
use Rattle.offer.specs.declared.session.After.{After}
use Rattle.unique.proofs.Law.{Line, unique, equation, alike, ◌&◌}
use Rattle.offer.specs.contracts as offer
use Rattle.offer.specs.contracts.lent as lent
use Rattle.offer.specs.contracts.range as range
use Rattle.offer.specs.contracts.state as state
use Rattle.offer.specs.contracts.session as session

-- what a call of a session returns, and what it leaves
pub proposes : {S : Type 0} {s : Session S} {r r₂ : After S} {a : Answer (Proposal S)} {step trial scratch step₁ trial₁ scratch₁ step₂ trial₂ scratch₂ : List Float}
    → Proposes a s step trial scratch r step₁ trial₁ scratch₁ → Proposes a s step trial scratch r₂ step₂ trial₂ scratch₂ → (r ≡ r₂) × (step₁ ≡ step₂) × (trial₁ ≡ trial₂) × (scratch₁ ≡ scratch₂)
proposes p q = (alike p.says q.says, alike p.leaves_step q.leaves_step, alike p.leaves_trial q.leaves_trial, alike p.leaves_scratch q.leaves_scratch)

pub table : List Line
table =
    unique offer.make_unchecked.ended (λ M 𝓤. offer.make_unchecked.spec) (λ w κs a g r. refl) (λ κs a r r₂ s s₂ p q. (alike p.says q.says, λ i. tt & tt & tt & tt & tt & alike p.leaves_step q.leaves_step i & alike p.leaves_trial q.leaves_trial i & alike p.leaves_scratch q.leaves_scratch i & tt))
    ∷ equation lent.all_sized.ended (λ M 𝓤. lent.all_sized.spec) (λ w κs a g r. refl) (λ κs a s s₂. refl)
    ∷ equation lent.inputs_finite.ended (λ M 𝓤. lent.inputs_finite.spec) (λ w κs a g r. refl) (λ κs a s s₂. refl)
    ∷ unique lent.copy.ended (λ M 𝓤. lent.copy.spec) (λ w κs a g r. refl) (λ κs a r r₂ s s₂ p q. (refl, λ i. tt & alike p q i & tt))
    ∷ equation range.cost_taken.ended (λ M 𝓤. range.cost_taken.spec) (λ w κs a g r. refl) (λ κs a s s₂. refl)
    ∷ equation range.verdict.ended (λ M 𝓤. range.verdict.spec) (λ w κs a g r. refl) (λ κs a s s₂. refl)
    ∷ equation range.proposal.ended (λ M 𝓤. range.proposal.spec) (λ w κs a g r. refl) (λ κs a s s₂. refl)
    ∷ equation state.begin.ended (λ M 𝓤. state.begin.spec) (λ w κs a g r. refl) (λ κs a s s₂. refl)
    ∷ equation state.moved.ended (λ M 𝓤. state.moved.spec) (λ w κs a g r. refl) (λ κs a s s₂. refl)
    ∷ equation state.in_phase.ended (λ M 𝓤. state.in_phase.spec) (λ w κs a g r. refl) (λ κs a s s₂. refl)
    ∷ equation state.counted.ended (λ M 𝓤. state.counted.spec) (λ w κs a g r. refl) (λ κs a s s₂. refl)
    ∷ equation state.allowable.ended (λ M 𝓤. state.allowable.spec) (λ w κs a g r. refl) (λ κs a s s₂. refl)
    ∷ equation state.steady.ended (λ M 𝓤. state.steady.spec) (λ w κs a g r. refl) (λ κs a s s₂. refl)
    ∷ equation state.is_ready.ended (λ M 𝓤. state.is_ready.spec) (λ w κs a g r. refl) (λ κs a s s₂. refl)
    ∷ equation state.awaits_derivatives.ended (λ M 𝓤. state.awaits_derivatives.spec) (λ w κs a g r. refl) (λ κs a s s₂. refl)
    ∷ equation state.promised.ended (λ M 𝓤. state.promised.spec) (λ w κs a g r. refl) (λ κs a s s₂. refl)
    ∷ []

-- A session of any kind: for each type of settings, by what is known of it.
module _ (S : RattleType) (kind : Kind.Ghosts S.Denot) (k : Dict) (copied : Clone.Ghosts S.Denot) (c : Dict) where
  pub sessions : List Line
  sessions =
      equation (session.Session.start.ended S kind k copied c) (λ M 𝓤. session.Session.start.spec S kind k copied c) (λ w κs a g r. refl) (λ κs a s s₂. refl)
      ∷ equation (session.Session.is_sound.ended S kind k copied c) (λ M 𝓤. session.Session.is_sound.spec S kind k copied c) (λ w κs a g r. refl) (λ κs a s s₂. refl)
      ∷ equation (session.Session.asked.ended S kind k copied c) (λ M 𝓤. session.Session.asked.spec S kind k copied c) (λ w κs a g r. refl) (λ κs a s s₂. refl)
      ∷ unique (session.Session.propose.ended S kind k copied c) (λ M 𝓤. session.Session.propose.spec S kind k copied c) (λ w κs a g r. refl) (λ κs a r r₂ s s₂ p q. let e = proposes p q in ((λ i. (e.0 i).outcome), λ i. (e.0 i).session & tt & tt & tt & tt & e.1 i & e.2 i & e.3 i & tt))
      ∷ []
