-- How calls end, over the values. Assumes nothing.
use mathlib.Core.Path.{◌≡◌, refl, ◌∙◌, ap}
use mathlib.Core.Bool.{Bool, true, false, not}
use mathlib.Core.List.{List, [], ◌∷◌}
use Prim.Native.Nat.{ℕ, ◌*◌}
use native.Mathlib.Omega.{arith}
use lib.ListN.{length}
use lib.Ieee.{Float}
use borrow.Author.Tests.{eq-eqb}
use Rattle.vectors.specs.Vector.{weighted}
use Rattle.vectors.specs.Refusal.{given, ◌if◌, unless, Square, Wrote}
use Rattle.vectors.specs.Calls.{tells, value_of, weighted_answer}
use Rattle.std.specs.Prelude.{Result, Ok, Err}
use Rattle.vectors.specs.declared.refusal.Refusal.{Refusal}
use Rattle.vectors.specs.declared.refusal.Refusal.TheVariants.{Size}
use Rattle.vectors.proofs.Sizes.{size_test}

-- ---- a call that refuses only by 1, where t is the test of its sizes

module _ (t : Bool) (v out : List Float) where
  pub kept : t ≡ false → Wrote (unless ((Size if not t) ∷ []) (given v)) (Err Size) out out
  kept e = rw e (record { says = refl; leaves = refl })

  pub written : (out' : List Float) → t ≡ true → out' ≡ v → Wrote (unless ((Size if not t) ∷ []) (given v)) (Ok tt) out out'
  written out' e f = rw e (record { says = ap given f; leaves = f })

-- ---- the number of a call that refuses nothing

pub value_right : (x : Result Float Refusal) (v : Float) → tells x ≡ given v → value_of x ≡ v
value_right (Ok y) v e = cc
value_right (Err r) v e = absurd (let z : ◌≡◌ {A = ℕ} 0 1 = cc in omega arith)

pub weighted_value : (n : ℕ) (a H b : List Float) → Square n (length H) → length a ≡ n → length b ≡ n
    → (x : Result Float Refusal) → tells x ≡ weighted_answer n a H b → value_of x ≡ weighted n a H b
weighted_value n a H b s p q x e =
    value_right x (weighted n a H b) (e ∙ simp (size_test s, eq-eqb (length H) (n * n) s.long, eq-eqb (length a) n p, eq-eqb (length b) n q))
