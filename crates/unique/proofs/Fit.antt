-- crates/fit: a script is made, kept and gone back to in one way. The contract of `run` leaves to the system which lines leave the page. Assumes nothing.
use mathlib.Core.Path.{refl}
use mathlib.Core.List.{List, [], ◌∷◌}
use Rattle.unique.proofs.Law.{Line, equation, unique, unique_of_two, alike, ◌&◌}
use Rattle.unique.proofs.Stream.{input}
use Rattle.fit.specs.contracts as fit

pub table : List Line
table =
    unique fit.reading.Reading.of.ended (λ M 𝓤. fit.reading.Reading.of.spec) (λ w κs a g r. refl) (λ κs a r r₂ s s₂ p q. (alike p q, refl))
    ∷ unique_of_two fit.reading.Reading.whole_input.ended (λ M 𝓤. fit.reading.Reading.whole_input.spec) (λ w κs a g r. refl) (λ κs a r r₂ s s₂ p q. let e = input (alike p.0.kept q.0.kept) (alike p.0.place q.0.place) (alike p.0.last q.0.last) in ((λ i. record { input = e i; left = alike p.1 q.1 i }), refl))
    ∷ equation fit.reading.Reading.mark.ended (λ M 𝓤. fit.reading.Reading.mark.spec) (λ w κs a g r. refl) (λ κs a s s₂. refl)
    ∷ unique fit.reading.Reading.go_to.ended (λ M 𝓤. fit.reading.Reading.go_to.spec) (λ w κs a g r. refl) (λ κs a r r₂ s s₂ p q. (refl, λ i. alike p q i & tt & tt))
    ∷ []
