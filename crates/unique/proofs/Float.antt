-- crates/float: each contract has one result. Assumes nothing.
use mathlib.Core.Path.{refl}
use mathlib.Core.List.{List, [], ◌∷◌}
use Rattle.unique.proofs.Law.{Line, equation}
use Rattle.float.specs.contracts as float

pub table : List Line
table =
    equation float.finite.ended (λ M 𝓤. float.finite.spec) (λ w κs a g r. refl) (λ κs a s s₂. refl)
    ∷ equation float.is_nan.ended (λ M 𝓤. float.is_nan.spec) (λ w κs a g r. refl) (λ κs a s s₂. refl)
    ∷ equation float.magnitude.ended (λ M 𝓤. float.magnitude.spec) (λ w κs a g r. refl) (λ κs a s s₂. refl)
    ∷ equation float.smaller.ended (λ M 𝓤. float.smaller.spec) (λ w κs a g r. refl) (λ κs a s s₂. refl)
    ∷ equation float.one_nan.ended (λ M 𝓤. float.one_nan.spec) (λ w κs a g r. refl) (λ κs a s s₂. refl)
    ∷ equation float.float_of.ended (λ M 𝓤. float.float_of.spec) (λ w κs a g r. refl) (λ κs a s s₂. refl)
    ∷ equation float.bits_of.ended (λ M 𝓤. float.bits_of.spec) (λ w κs a g r. refl) (λ κs a s s₂. refl)
    ∷ []
