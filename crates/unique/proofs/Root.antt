-- crates/root: its contract has one result. Assumes nothing.
use mathlib.Core.Path.{refl}
use mathlib.Core.List.{List, [], ◌∷◌}
use Rattle.unique.proofs.Law.{Line, equation}
use Rattle.root.specs.contracts as root

pub table : List Line
table =
    equation root.root.ended (λ M 𝓤. root.root.spec) (λ w κs a g r. refl) (λ κs a s s₂. refl)
    ∷ []
