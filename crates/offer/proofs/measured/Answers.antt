-- `offer::measured` meets its contract. Assumes nothing.
use mathlib.Core.Path.{◌≡◌, ◌∙◌}
use Prim.Native.Nat.{ℕ}
use lib.Ieee.{Float}
use Rattle.vectors.proofs.Ends.{weighted_value}
use Rattle.offer.specs.declared.Offered.{Offered}
use Rattle.offer.proofs.measured.Goals as goal

abbrev by_parts : (passes : ℕ) (a b c : Float) → Offered
by_parts passes a b c = record { passes = passes; slope = a; curvature = b; norm = c }

same : (passes : ℕ) {a b c a' b' c' : Float} → a ≡ a' → b ≡ b' → c ≡ c' → by_parts passes a b c ≡ by_parts passes a' b' c'
same passes e f g = rw (e, f, g)

pub returns : goal.returns
returns c =
    same _ c.dot_any.ensures (c.value.ensures ∙ weighted_value _ _ _ _ c.requires.0 c.requires.1 c.requires.1 c.weighted_dot.result c.weighted_dot.ensures) c.requires.2
