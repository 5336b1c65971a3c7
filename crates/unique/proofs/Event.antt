-- crates/event: each contract has one result. Assumes nothing.
use mathlib.Core.Path.{refl}
use mathlib.Core.List.{List, [], ◌∷◌}
use Rattle.unique.proofs.Law.{Line, equation}
use Rattle.event.specs.contracts as event

pub table : List Line
table =
    equation event.Event.said.ended (λ M 𝓤. event.Event.said.spec) (λ w κs a g r. refl) (λ κs a s s₂. refl)
    ∷ equation event.Event.is_last.ended (λ M 𝓤. event.Event.is_last.spec) (λ w κs a g r. refl) (λ κs a s s₂. refl)
    ∷ []
