-- crates/script: each contract has one result. Assumes nothing.
use mathlib.Core.Path.{◌≡◌, refl}
use mathlib.Core.Bool.{Bool, true, false}
use mathlib.Core.List.{List, [], ◌∷◌}
use Prim.Native.Nat.{ℕ}
use lib.Ieee.{Float}
use Rattle.std.specs.Prelude.{Option}
use Rattle.std.specs.Borrow.{MutBor}
use Rattle.script.specs.Place.{Stays, SamePlace}
use Rattle.script.specs.Start.{is_whole, lists_by, Decoded}
use Rattle.script.specs.declared.Place.{Place}
use Rattle.script.specs.declared.start.Start.{Start}
use Rattle.unique.proofs.Law.{Line, unique, unique_of_two, equation, alike, ◌&◌}
use Rattle.script.specs.contracts.start as start
use Rattle.script.specs.contracts.call as call

-- a reference that stays is known by its list, and a place by its three
pub stays : {list list₁ list₂ : MutBor (List Float)} → Stays list list₁ → Stays list list₂ → list₁.now ≡ list₂.now → list₁ ≡ list₂
stays p q e = λ i. record { ref_ptr = alike p.pointer q.pointer i; ghost_name = alike p.name q.name i; now = e i }

pub same_place : {place place₁ place₂ : Place} → SamePlace place place₁ → SamePlace place place₂
    → place₁.point.now ≡ place₂.point.now → place₁.gradient.now ≡ place₂.gradient.now → place₁.hessian.now ≡ place₂.hessian.now → place₁ ≡ place₂
same_place p q e f g = λ i. record { point = stays p.point q.point e i; gradient = stays p.gradient q.gradient f i; hessian = stays p.hessian q.hessian g i }

-- the lists that a start fills, or leaves
module _ (words : List ℕ) (point point₁ point₂ gradient gradient₁ gradient₂ hessian hessian₁ hessian₂ : List Float) where
  lists : (b : Bool) → lists_by b words point point₁ gradient gradient₁ hessian hessian₁ → lists_by b words point point₂ gradient gradient₂ hessian hessian₂ → (point₁ ≡ point₂) × (gradient₁ ≡ gradient₂) × (hessian₁ ≡ hessian₂)
  lists true p q = (alike p.point_there q.point_there, alike p.gradient_there q.gradient_there, alike p.hessian_there q.hessian_there)
  lists false p q = (alike p.point_kept q.point_kept, alike p.gradient_kept q.gradient_kept, alike p.hessian_kept q.hessian_kept)

module _ {words : List ℕ} {r r₂ : Option Start} {point point₁ point₂ gradient gradient₁ gradient₂ hessian hessian₁ hessian₂ : List Float} where
  decoded : Decoded words r point point₁ gradient gradient₁ hessian hessian₁ → Decoded words r₂ point point₂ gradient gradient₂ hessian hessian₂ → (point₁ ≡ point₂) × (gradient₁ ≡ gradient₂) × (hessian₁ ≡ hessian₂)
  decoded p q = lists words point point₁ point₂ gradient gradient₁ gradient₂ hessian hessian₁ hessian₂ (is_whole words) p.leaves q.leaves

pub table : List Line
table =
    equation start.kind.ended (λ M 𝓤. start.kind.spec) (λ w κs a g r. refl) (λ κs a s s₂. refl)
    ∷ equation start.size.ended (λ M 𝓤. start.size.spec) (λ w κs a g r. refl) (λ κs a s s₂. refl)
    ∷ equation start.tells_more.ended (λ M 𝓤. start.tells_more.spec) (λ w κs a g r. refl) (λ κs a s s₂. refl)
    ∷ equation start.wanted.ended (λ M 𝓤. start.wanted.spec) (λ w κs a g r. refl) (λ κs a s s₂. refl)
    ∷ unique_of_two start.decode.ended (λ M 𝓤. start.decode.spec) (λ w κs a g r. refl) (λ κs a r r₂ s s₂ p q. let e = decoded p.1 q.1 in (alike p.1.says q.1.says, λ i. tt & same_place p.0 q.0 e.0 e.1 e.2 i & tt))
    ∷ equation call.wanted.ended (λ M 𝓤. call.wanted.spec) (λ w κs a g r. refl) (λ κs a s s₂. refl)
    ∷ unique call.decode.ended (λ M 𝓤. call.decode.spec) (λ w κs a g r. refl) (λ κs a r r₂ s s₂ p q. (alike p.says q.says, λ i. tt & tt & tt & alike p.leaves_gradient q.leaves_gradient i & alike p.leaves_hessian q.leaves_hessian i & tt))
    ∷ []
