-- Laws of the Cauchy point. Assumes nothing.
use mathlib.Core.Path.{◌≡◌, ◌∙◌, ap, subst}
use mathlib.Core.List.{List}
use Prim.Native.Nat.{ℕ}
use lib.ListN.{length}
use lib.Ieee.{Float}
use Rattle.std.specs.Prelude.{Result}
use Rattle.vectors.specs.Vector.{norm, weighted, scale}
use Rattle.vectors.specs.Slots.{slot, Puts}
use Rattle.kernels.specs.Kernel.{made, handed_out, Proper, Reached}
use Rattle.kernels.specs.CauchyPoint.{factor, along, cauchy_point}
use Rattle.kernels.specs.declared.kernel.Stepped.{Stepped}
use Rattle.vectors.specs.declared.refusal.Refusal.{Refusal}
use Rattle.vectors.proofs.Vectors.{length_scale}
use Rattle.kernels.proofs.Kernels.{handed_proper, reached_same}

along_proper : (n : ℕ) (radius w norm-g : Float) (g : List Float) → Proper n (along n radius w norm-g g)
unfolding along
along_proper n radius w norm-g g = let t = factor radius w norm-g in handed_proper n (made 0 (scale n g t)) (length_scale n g t)

pub cauchy_proper : (n : ℕ) (radius : Float) (g H : List Float) → Proper n (cauchy_point n radius g H)
unfolding cauchy_point
cauchy_proper n radius g H = along_proper n radius (weighted n g H g) (norm g) g

-- `lay_by`, from what it wrote
pub along_laid : (n : ℕ) (radius w norm-g t : Float) (g v v₁ v₂ : List Float) (r : Result Stepped Refusal) → t ≡ factor radius w norm-g → Puts v n 0 (scale n g t) v₁ → length v₁ ≡ length v
    → Reached (handed_out (made 0 (slot v₁ n 0))) r v₁ v₂ → Reached (along n radius w norm-g g) r v v₂
unfolding along
along_laid n radius w norm-g t g v v₁ v₂ r e p l h =
    let made_of : slot v₁ n 0 ≡ scale n g (factor radius w norm-g) = p 0 ∙ rw e in
    reached_same (handed_out (made 0 (slot v₁ n 0))) (along n radius w norm-g g) r v₁ v v₂ (ap (λ (x : List Float). handed_out (made 0 x)) made_of) l h

-- with g·H·g and ‖g‖ it is the kernel
pub cauchy_laid : (n : ℕ) (radius w norm-g : Float) (g H v v₁ : List Float) (r : Result Stepped Refusal) → w ≡ weighted n g H g → norm-g ≡ norm g → Reached (along n radius w norm-g g) r v v₁ → Reached (cauchy_point n radius g H) r v v₁
unfolding cauchy_point
cauchy_laid n radius w norm-g g H v v₁ r a b h =
    subst (λ (x : Float). Reached (along n radius x (norm g) g) r v v₁) a (subst (λ (x : Float). Reached (along n radius w x g) r v v₁) b h)
