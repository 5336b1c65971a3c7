-- crates/kernels: each contract has one result. Assumes nothing.
use mathlib.Core.Path.{◌≡◌, refl}
use mathlib.Core.List.{List, [], ◌∷◌}
use Rattle.std.specs.Prelude.{Result}
use lib.Ieee.{Float}
use Rattle.vectors.specs.Refusal.{Answer}
use Rattle.kernels.specs.Kernel.{Made, Took}
use Rattle.vectors.specs.declared.refusal.Refusal.{Refusal}
use Rattle.kernels.specs.declared.kernel.Stepped.{Stepped}
use Rattle.unique.proofs.Law.{Line, unique, equation, alike, ◌&◌}
use Rattle.unique.proofs.Vectors.{wrote}
use Rattle.kernels.specs.contracts as kernels

took : {a : Answer Made} {r r₂ : Result Stepped Refusal} {s s' s'' w w' w'' : List Float} → Took a r s s' w w' → Took a r₂ s s'' w w'' → (r ≡ r₂) × (s' ≡ s'') × (w' ≡ w'')
took p q = (alike p.says q.says, alike p.leaves q.leaves, alike p.clears q.clears)

pub table : List Line
table =
    equation kernels.reduction_ratio.ended (λ M 𝓤. kernels.reduction_ratio.spec) (λ w κs a g r. refl) (λ κs a s s₂. refl)
    ∷ equation kernels.kernel.positive.ended (λ M 𝓤. kernels.kernel.positive.spec) (λ w κs a g r. refl) (λ κs a s s₂. refl)
    ∷ unique kernels.inverse.inverse.ended (λ M 𝓤. kernels.inverse.inverse.spec) (λ w κs a g r. refl) (λ κs a r r₂ s s₂ p q. let e = wrote p.wrote q.wrote in (e.0, λ i. tt & tt & e.1 i & alike p.clears q.clears i & tt))
    ∷ unique kernels.cauchypoint.cauchy_point.ended (λ M 𝓤. kernels.cauchypoint.cauchy_point.spec) (λ w κs a g r. refl) (λ κs a r r₂ s s₂ p q. let e = took p q in (e.0, λ i. tt & tt & tt & tt & e.1 i & e.2 i & tt))
    ∷ unique kernels.dogleg.dogleg.ended (λ M 𝓤. kernels.dogleg.dogleg.spec) (λ w κs a g r. refl) (λ κs a r r₂ s s₂ p q. let e = took p q in (e.0, λ i. tt & tt & tt & tt & e.1 i & e.2 i & tt))
    ∷ unique kernels.textbook.textbook_dogleg.ended (λ M 𝓤. kernels.textbook.textbook_dogleg.spec) (λ w κs a g r. refl) (λ κs a r r₂ s s₂ p q. let e = took p q in (e.0, λ i. tt & tt & tt & tt & e.1 i & e.2 i & tt))
    ∷ unique kernels.steihaug.steihaug.ended (λ M 𝓤. kernels.steihaug.steihaug.spec) (λ w κs a g r. refl) (λ κs a r r₂ s s₂ p q. let e = took p q in (e.0, λ i. tt & tt & tt & tt & tt & tt & e.1 i & e.2 i & tt))
    ∷ equation kernels.choice.Choice.new.ended (λ M 𝓤. kernels.choice.Choice.new.spec) (λ w κs a g r. refl) (λ κs a s s₂. refl)
    ∷ equation kernels.choice.Choice.of.ended (λ M 𝓤. kernels.choice.Choice.of.spec) (λ w κs a g r. refl) (λ κs a s s₂. refl)
    ∷ equation kernels.choice.Choice.with_dogleg.ended (λ M 𝓤. kernels.choice.Choice.with_dogleg.spec) (λ w κs a g r. refl) (λ κs a s s₂. refl)
    ∷ equation kernels.choice.in_range.ended (λ M 𝓤. kernels.choice.in_range.spec) (λ w κs a g r. refl) (λ κs a s s₂. refl)
    ∷ unique kernels.choice.lay_unchecked.ended (λ M 𝓤. kernels.choice.lay_unchecked.spec) (λ w κs a g r. refl) (λ κs a r r₂ s s₂ p q. (alike p.says q.says, λ i. tt & tt & tt & tt & tt & alike p.lays q.lays i & tt))
    ∷ unique kernels.choice.direct.ended (λ M 𝓤. kernels.choice.direct.spec) (λ w κs a g r. refl) (λ κs a r r₂ s s₂ p q. let e = took p q in (e.0, λ i. tt & tt & tt & tt & tt & e.1 i & e.2 i & tt))
    ∷ []
