-- crates/vectors: each contract has one result. Assumes nothing.
use mathlib.Core.Path.{◌≡◌, refl}
use mathlib.Core.List.{List, [], ◌∷◌}
use Rattle.std.specs.Prelude.{Result, Ok, Err}
use lib.Ieee.{Float}
use Rattle.vectors.specs.Refusal.{Answer, stands_for, Wrote}
use Rattle.vectors.specs.Calls.{tells}
use Rattle.vectors.specs.declared.refusal.Refusal.{Refusal}
use Rattle.unique.proofs.Law.{Line, unique, equation, UniqueIn, unique_in, alike, ◌&◌}
use Rattle.vectors.specs.contracts.refusal as refusal
use Rattle.vectors.specs.contracts.vector as vector

-- a result is known by the answer that it stands for
told : {a : Answer Float} (r r₂ : Result Float Refusal) → tells r ≡ a → tells r₂ ≡ a → r ≡ r₂
told (Ok x) (Ok y) p q = cc
told (Ok x) (Err l) p q = cc
told (Err k) (Ok y) p q = cc
told (Err k) (Err l) p q = cc

-- and so is one that gives nothing, with what was left
stood : (r r₂ : Result (Unit {0}) Refusal) (v v₂ : List Float) → stands_for r v ≡ stands_for r₂ v₂ → r ≡ r₂
stood (Ok x) (Ok y) v v₂ e = refl
stood (Ok x) (Err k) v v₂ e = cc
stood (Err k) (Ok x) v v₂ e = cc
stood (Err k) (Err l) v v₂ e = cc

pub wrote : {a : Answer (List Float)} {r r₂ : Result (Unit {0}) Refusal} {s s' s'' : List Float} → Wrote a r s s' → Wrote a r₂ s s'' → (r ≡ r₂) × (s' ≡ s'')
wrote p q = (stood _ _ _ _ (alike p.says q.says), alike p.leaves q.leaves)

pub table : List Line
table =
    equation refusal.Refusal.number.ended (λ M 𝓤. refusal.Refusal.number.spec) (λ w κs a g r. refl) (λ κs a s s₂. refl)
    ∷ equation refusal.Refusal.unless.ended (λ M 𝓤. refusal.Refusal.unless.spec) (λ w κs a g r. refl) (λ κs a s s₂. refl)
    ∷ equation refusal.U64FromRefusal.from.ended (λ M 𝓤. refusal.U64FromRefusal.from.spec) (λ w κs a g r. refl) (λ κs a s s₂. refl)
    ∷ equation refusal.all_hold.ended (λ M 𝓤. refusal.all_hold.spec) (λ w κs a g r. refl) (λ κs a s s₂. refl)
    ∷ equation refusal.size.ended (λ M 𝓤. refusal.size.spec) (λ w κs a g r. refl) (λ κs a s s₂. refl)
    ∷ equation refusal.vectors.ended (λ M 𝓤. refusal.vectors.spec) (λ w κs a g r. refl) (λ κs a s s₂. refl)
    ∷ equation refusal.matrix.ended (λ M 𝓤. refusal.matrix.spec) (λ w κs a g r. refl) (λ κs a s s₂. refl)
    ∷ equation refusal.shaped.ended (λ M 𝓤. refusal.shaped.spec) (λ w κs a g r. refl) (λ κs a s s₂. refl)
    ∷ equation vector.all_finite.ended (λ M 𝓤. vector.all_finite.spec) (λ w κs a g r. refl) (λ κs a s s₂. refl)
    ∷ equation vector.both_finite.ended (λ M 𝓤. vector.both_finite.spec) (λ w κs a g r. refl) (λ κs a s s₂. refl)
    ∷ unique vector.clear.ended (λ M 𝓤. vector.clear.spec) (λ w κs a g r. refl) (λ κs a r r₂ s s₂ p q. (refl, λ i. alike p q i & tt))
    ∷ equation vector.value.ended (λ M 𝓤. vector.value.spec) (λ w κs a g r. refl) (λ κs a s s₂. refl)
    ∷ unique vector.dot.ended (λ M 𝓤. vector.dot.spec) (λ w κs a g r. refl) (λ κs a r r₂ s s₂ p q. (told r r₂ p q, refl))
    ∷ unique vector.norm.ended (λ M 𝓤. vector.norm.spec) (λ w κs a g r. refl) (λ κs a r r₂ s s₂ p q. (told r r₂ p q, refl))
    ∷ unique vector.weighted_dot.ended (λ M 𝓤. vector.weighted_dot.spec) (λ w κs a g r. refl) (λ κs a r r₂ s s₂ p q. (told r r₂ p q, refl))
    ∷ unique vector.product.ended (λ M 𝓤. vector.product.spec) (λ w κs a g r. refl) (λ κs a r r₂ s s₂ p q. let e = wrote p q in (e.0, λ i. tt & tt & tt & e.1 i & tt))
    ∷ equation vector.dot_any.ended (λ M 𝓤. vector.dot_any.spec) (λ w κs a g r. refl) (λ κs a s s₂. refl)
    ∷ equation vector.norm_any.ended (λ M 𝓤. vector.norm_any.spec) (λ w κs a g r. refl) (λ κs a s s₂. refl)
    ∷ equation vector.largest.ended (λ M 𝓤. vector.largest.spec) (λ w κs a g r. refl) (λ κs a s s₂. refl)
    ∷ []

-- The part of a matrix that `row` hands back has one content. Where it lies no contract says.
pub row : UniqueIn vector.row.ended (λ κs a r r₂ s s₂. (r.now ≡ r₂.now) × (s ≡ s₂)) (λ M 𝓤. vector.row.spec)
row = unique_in (λ w κs a g r. refl) (λ κs a r r₂ s s₂ p q. (alike p q, refl))
