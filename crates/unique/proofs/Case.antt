-- crates/case: each contract has one result. Assumes nothing.
use mathlib.Core.Path.{refl}
use mathlib.Core.List.{List, [], ◌∷◌}
use Rattle.unique.proofs.Law.{Line, unique, unique_of_two, alike, ◌&◌}
use Rattle.unique.proofs.Stream.{puts}
use Rattle.case.specs.contracts as case

pub table : List Line
table =
    unique case.answer.ended (λ M 𝓤. case.answer.spec) (λ w κs a g r. refl) (λ κs a r r₂ s s₂ p q. (alike p.says q.says, λ i. tt & alike p.gradient q.gradient i & alike p.hessian q.hessian i & alike p.leaves q.leaves i & alike p.clears q.clears i & tt))
    ∷ unique case.Workspace.new.ended (λ M 𝓤. case.Workspace.new.spec) (λ w κs a g r. refl) (λ κs a r r₂ s s₂ p q. ((λ i. record { gradient = alike p.0 q.0 i; hessian = alike p.1 q.1 i; step = alike p.2 q.2 i; scratch = alike p.3 q.3 i }), refl))
    ∷ unique_of_two case.Workspace.answer.ended (λ M 𝓤. case.Workspace.answer.spec) (λ w κs a g r. refl) (λ κs a r r₂ s s₂ p q. (alike p.0 q.0, λ i. record { gradient = alike p.1.gradient q.1.gradient i; hessian = alike p.1.hessian q.1.hessian i; step = alike p.1.leaves q.1.leaves i; scratch = alike p.1.clears q.1.clears i } & tt & tt))
    ∷ unique case.lines.put.ended (λ M 𝓤. case.lines.put.spec) (λ w κs a g r. refl) (λ κs a r r₂ s s₂ p q. (refl, λ i. puts _ p q i & tt & tt & tt))
    ∷ []
