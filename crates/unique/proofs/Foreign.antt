-- crates/foreign: each contract has one result. Assumes nothing.
use mathlib.Core.Path.{refl}
use mathlib.Core.List.{List, [], ◌∷◌}
use Rattle.unique.proofs.Law.{Line, unique, equation, alike, ◌&◌}
use Rattle.foreign.specs.contracts as foreign

pub table : List Line
table =
    equation foreign.mboyaxin_root.ended (λ M 𝓤. foreign.mboyaxin_root.spec) (λ w κs a g r. refl) (λ κs a s s₂. refl)
    ∷ equation foreign.mboyaxin_magnitude.ended (λ M 𝓤. foreign.mboyaxin_magnitude.spec) (λ w κs a g r. refl) (λ κs a s s₂. refl)
    ∷ equation foreign.mboyaxin_smaller.ended (λ M 𝓤. foreign.mboyaxin_smaller.spec) (λ w κs a g r. refl) (λ κs a s s₂. refl)
    ∷ equation foreign.mboyaxin_one_nan.ended (λ M 𝓤. foreign.mboyaxin_one_nan.spec) (λ w κs a g r. refl) (λ κs a s s₂. refl)
    ∷ equation foreign.mboyaxin_float_of.ended (λ M 𝓤. foreign.mboyaxin_float_of.spec) (λ w κs a g r. refl) (λ κs a s s₂. refl)
    ∷ equation foreign.mboyaxin_bits_of.ended (λ M 𝓤. foreign.mboyaxin_bits_of.spec) (λ w κs a g r. refl) (λ κs a s s₂. refl)
    ∷ unique foreign.mboyaxin_dot.ended (λ M 𝓤. foreign.mboyaxin_dot.spec) (λ w κs a g r. refl) (λ κs a r r₂ s s₂ p q. (alike p.says q.says, λ i. tt & tt & tt & alike p.leaves q.leaves i & tt))
    ∷ unique foreign.mboyaxin_norm.ended (λ M 𝓤. foreign.mboyaxin_norm.spec) (λ w κs a g r. refl) (λ κs a r r₂ s s₂ p q. (alike p.says q.says, λ i. tt & tt & alike p.leaves q.leaves i & tt))
    ∷ unique foreign.mboyaxin_weighted_dot.ended (λ M 𝓤. foreign.mboyaxin_weighted_dot.spec) (λ w κs a g r. refl) (λ κs a r r₂ s s₂ p q. (alike p.says q.says, λ i. tt & tt & tt & tt & alike p.leaves q.leaves i & tt))
    ∷ equation foreign.mboyaxin_dot_any.ended (λ M 𝓤. foreign.mboyaxin_dot_any.spec) (λ w κs a g r. refl) (λ κs a s s₂. refl)
    ∷ equation foreign.mboyaxin_norm_any.ended (λ M 𝓤. foreign.mboyaxin_norm_any.spec) (λ w κs a g r. refl) (λ κs a s s₂. refl)
    ∷ equation foreign.mboyaxin_largest.ended (λ M 𝓤. foreign.mboyaxin_largest.spec) (λ w κs a g r. refl) (λ κs a s s₂. refl)
    ∷ equation foreign.mboyaxin_reduction_ratio.ended (λ M 𝓤. foreign.mboyaxin_reduction_ratio.spec) (λ w κs a g r. refl) (λ κs a s s₂. refl)
    ∷ unique foreign.mboyaxin_product.ended (λ M 𝓤. foreign.mboyaxin_product.spec) (λ w κs a g r. refl) (λ κs a r r₂ s s₂ p q. (alike p.says q.says, λ i. tt & tt & tt & alike p.leaves q.leaves i & tt))
    ∷ unique foreign.mboyaxin_inverse.ended (λ M 𝓤. foreign.mboyaxin_inverse.spec) (λ w κs a g r. refl) (λ κs a r r₂ s s₂ p q. (alike p.filled.says q.filled.says, λ i. tt & tt & alike p.filled.leaves q.filled.leaves i & alike p.clears q.clears i & tt))
    ∷ unique foreign.mboyaxin_cauchy_point.ended (λ M 𝓤. foreign.mboyaxin_cauchy_point.spec) (λ w κs a g r. refl) (λ κs a r r₂ s s₂ p q. (alike p.says q.says, λ i. tt & tt & tt & tt & tt & tt & alike p.leaves q.leaves i & alike p.clears q.clears i & tt))
    ∷ unique foreign.mboyaxin_dogleg.ended (λ M 𝓤. foreign.mboyaxin_dogleg.spec) (λ w κs a g r. refl) (λ κs a r r₂ s s₂ p q. (alike p.says q.says, λ i. tt & tt & tt & tt & tt & tt & alike p.leaves q.leaves i & alike p.clears q.clears i & tt))
    ∷ unique foreign.mboyaxin_textbook_dogleg.ended (λ M 𝓤. foreign.mboyaxin_textbook_dogleg.spec) (λ w κs a g r. refl) (λ κs a r r₂ s s₂ p q. (alike p.says q.says, λ i. tt & tt & tt & tt & tt & tt & alike p.leaves q.leaves i & alike p.clears q.clears i & tt))
    ∷ unique foreign.mboyaxin_steihaug.ended (λ M 𝓤. foreign.mboyaxin_steihaug.spec) (λ w κs a g r. refl) (λ κs a r r₂ s s₂ p q. (alike p.says q.says, λ i. tt & tt & tt & tt & tt & tt & alike p.leaves q.leaves i & alike p.clears q.clears i & tt))
    ∷ []
