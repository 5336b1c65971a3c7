-- crates/codec: each contract has one result. Assumes nothing.
use mathlib.Core.Path.{refl}
use mathlib.Core.List.{List, [], ◌∷◌}
use Rattle.unique.proofs.Law.{Line, equation}
use Rattle.codec.specs.contracts as codec

pub table : List Line
table =
    equation codec.Wholes.by_default.ended (λ M 𝓤. codec.Wholes.by_default.spec) (λ w κs a g r. refl) (λ κs a s s₂. refl)
    ∷ equation codec.Wholes.trust_region.ended (λ M 𝓤. codec.Wholes.trust_region.spec) (λ w κs a g r. refl) (λ κs a s s₂. refl)
    ∷ equation codec.Wholes.sr1.ended (λ M 𝓤. codec.Wholes.sr1.spec) (λ w κs a g r. refl) (λ κs a s s₂. refl)
    ∷ equation codec.PhaseFromTurn.from.ended (λ M 𝓤. codec.PhaseFromTurn.from.spec) (λ w κs a g r. refl) (λ κs a s s₂. refl)
    ∷ equation codec.TurnFromPhase.from.ended (λ M 𝓤. codec.TurnFromPhase.from.spec) (λ w κs a g r. refl) (λ κs a s s₂. refl)
    ∷ []
