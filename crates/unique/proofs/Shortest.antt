-- crates/shortest: its contract has one result. Assumes nothing.
use mathlib.Core.Path.{refl}
use mathlib.Core.List.{List, [], ◌∷◌}
use Rattle.unique.proofs.Law.{Line, unique, alike}
use Rattle.shortest.specs.contracts as shortest

pub table : List Line
table =
    unique shortest.digits_of.ended (λ M 𝓤. shortest.digits_of.spec) (λ w κs a g r. refl) (λ κs a r r₂ s s₂ p q. ((λ i. record { number = alike p.same_number q.same_number i; count = alike p.same_count q.same_count i; raised = alike p.same_raised q.same_raised i; lowered = alike p.same_lowered q.same_lowered i }), refl))
    ∷ []
