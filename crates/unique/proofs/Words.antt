-- crates/words: each contract has one result. Assumes nothing.
use mathlib.Core.Path.{refl}
use mathlib.Core.List.{List, [], ◌∷◌}
use Rattle.unique.proofs.Law.{Line, unique_of_two, equation, alike, ◌&◌}
use Rattle.words.specs.contracts as words

pub table : List Line
table =
    equation words.word_at.ended (λ M 𝓤. words.word_at.spec) (λ w κs a g r. refl) (λ κs a s s₂. refl)
    ∷ unique_of_two words.put_word.ended (λ M 𝓤. words.put_word.spec) (λ w κs a g r. refl) (λ κs a r r₂ s s₂ p q. (alike p.0 q.0, λ i. alike p.1 q.1 i & tt & tt & tt))
    ∷ unique_of_two words.put_hex.ended (λ M 𝓤. words.put_hex.spec) (λ w κs a g r. refl) (λ κs a r r₂ s s₂ p q. (alike p.0 q.0, λ i. alike p.1 q.1 i & tt & tt & tt))
    ∷ unique_of_two words.put_text.ended (λ M 𝓤. words.put_text.spec) (λ w κs a g r. refl) (λ κs a r r₂ s s₂ p q. (alike p.0 q.0, λ i. alike p.1 q.1 i & tt & tt & tt))
    ∷ []
