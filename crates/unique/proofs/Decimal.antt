-- crates/decimal: its contract has one result. Assumes nothing.
use mathlib.Core.Path.{refl}
use mathlib.Core.List.{List, [], ◌∷◌}
use Rattle.unique.proofs.Law.{Line, unique_of_two, alike, ◌&◌}
use Rattle.decimal.specs.contracts as decimal

pub table : List Line
table =
    unique_of_two decimal.write.ended (λ M 𝓤. decimal.write.spec) (λ w κs a g r. refl) (λ κs a r r₂ s s₂ p q. (alike p.0 q.0, λ i. tt & alike p.1 q.1 i & tt))
    ∷ []
