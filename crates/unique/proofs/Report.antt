-- crates/report: each contract has one result. Assumes nothing.
use mathlib.Core.Path.{refl}
use mathlib.Core.List.{List, [], ◌∷◌}
use Rattle.unique.proofs.Law.{Line, unique, ◌&◌}
use Rattle.unique.proofs.Stream.{puts}
use Rattle.report.specs.contracts as report

pub table : List Line
table =
    unique report.lines.put.ended (λ M 𝓤. report.lines.put.spec) (λ w κs a g r. refl) (λ κs a r r₂ s s₂ p q. (refl, λ i. puts _ p q i & tt & tt & tt & tt & tt & tt & tt & tt))
    ∷ unique report.table.put.ended (λ M 𝓤. report.table.put.spec) (λ w κs a g r. refl) (λ κs a r r₂ s s₂ p q. (refl, λ i. puts _ p q i & tt & tt & tt & tt))
    ∷ []
