-- crates/station: each contract has one result. Assumes nothing.
use mathlib.Core.Path.{◌≡◌, refl}
use mathlib.Core.List.{List, [], ◌∷◌}
use Rattle.offer.specs.Run.{Vectors}
use Rattle.station.specs.Happening.{Happened, Performed}
use Rattle.station.specs.Lists.{held, Same}
use Rattle.station.specs.declared.After.{After}
use Rattle.station.specs.declared.lists.Lists.{Lists}
use Rattle.unique.proofs.Law.{Line, unique_of_two, equation, alike, ◌&◌}
use Rattle.unique.proofs.Script.{stays, same_place}
use Rattle.station.specs.contracts as station

-- what a call returns, and the vectors that it leaves
performed : {h : Happened} {r r₂ : After} {v v₂ : Vectors} → Performed h r v → Performed h r₂ v₂ → (r ≡ r₂) × (v ≡ v₂)
performed p q = let e = alike p.says q.says in let l = alike p.leaves q.leaves in ((λ i. record { session = (l i).session; event = e i }), λ i. (l i).lent)

-- lists whose references stay are known by what they hold
same : {lists lists₁ lists₂ : Lists} → Same lists lists₁ → Same lists lists₂ → held lists₁ ≡ held lists₂ → lists₁ ≡ lists₂
same p q e = λ i. record {
  place = same_place p.place q.place (λ j. (e j).point) (λ j. (e j).gradient) (λ j. (e j).hessian) i;
  proposal = record { step = stays p.proposal.step q.proposal.step (λ j. (e j).step) i; trial = stays p.proposal.trial q.proposal.trial (λ j. (e j).trial) i };
  scratch = stays p.scratch q.scratch (λ j. (e j).scratch) i;
}

pub table : List Line
table =
    equation station.begin.ended (λ M 𝓤. station.begin.spec) (λ w κs a g r. refl) (λ κs a s s₂. refl)
    ∷ equation station.Session.kind.ended (λ M 𝓤. station.Session.kind.spec) (λ w κs a g r. refl) (λ κs a s s₂. refl)
    ∷ equation station.Session.state.ended (λ M 𝓤. station.Session.state.spec) (λ w κs a g r. refl) (λ κs a s s₂. refl)
    ∷ unique_of_two station.Session.perform.ended (λ M 𝓤. station.Session.perform.spec) (λ w κs a g r. refl) (λ κs a r r₂ s s₂ p q. let e = performed p.1 q.1 in (e.0, λ i. tt & tt & tt & same p.0 q.0 e.1 i & tt))
    ∷ []
