-- Laws of the lengths of what a call was lent. Assumes nothing.
use mathlib.Core.Path.{◌≡◌}
use mathlib.Core.Bool.{true}
use mathlib.Core.List.{List, [], ◌∷◌}
use Prim.Native.Nat.{ℕ, ◌+◌, ◌*◌, ◌≤◌}
use native.Mathlib.Omega.{arith}
use lib.Dec.{eqb}
use lib.ListN.{length, take}
use lib.Seq.{length-take-le}
use lib.Ieee.{Float}
use borrow.Author.Tests.{eqb-true, eq-eqb}
use Rattle.vectors.specs.Refusal.{all_hold, size, room, Square}
use Rattle.offer.specs.Calls.{replaced}
use Rattle.vectors.proofs.Sizes.{each_holds, square_by}

-- what a proposal was lent, where all its sizes are right
pub record Lent (n x g h p t w : ℕ) : Type 0 where
  pub point : x ≡ n
  pub gradient : g ≡ n
  pub square : Square n h
  pub step : p ≡ n
  pub trial : t ≡ n
  pub scratch : w ≡ room n

pub lent_true : (n x g h p t w : ℕ) → all_hold (size n ∷ eqb x n ∷ eqb g n ∷ eqb h (n * n) ∷ eqb p n ∷ eqb t n ∷ eqb w (room n) ∷ []) ≡ true → Lent n x g h p t w
lent_true n x g h p t w e =
    let a = each_holds (size n ∷ eqb x n ∷ eqb g n ∷ eqb h (n * n) ∷ eqb p n ∷ eqb t n ∷ eqb w (room n) ∷ []) e in
    let b = a.1.1.1 in
    record {
      point = eqb-true x n a.1.0;
      gradient = eqb-true g n a.1.1.0;
      square = square_by n h a.0 b.0;
      step = eqb-true p n b.1.0;
      trial = eqb-true t n b.1.1.0;
      scratch = eqb-true w (room n) b.1.1.1.0;
    }

-- the scratch has room for the step and the trial
pub used_room : {n x g h p t w : ℕ} (w₁ : ℕ) → Lent n x g h p t w → w₁ ≡ w → n + n ≤ w₁
used_room w₁ l e = omega (arith, l.scratch)

-- what `hand_out` asks of what is lent, of the part of the scratch that is used, and of the norm
pub hand_out_ready : {n x g h p t w : ℕ} {Known : Type 0} (w₁ : List Float) → Lent n x g h p t w → length w₁ ≡ w → Known → (n + n ≤ length (take (n + n) w₁)) × Square n h × (x ≡ n) × (p ≡ n) × (t ≡ n) × Known
hand_out_ready {n} w₁ l e k = (omega (arith, length-take-le (n + n) w₁ (used_room _ l e)), l.square, l.point, l.step, l.trial, k)

-- a vector takes the numbers of another of its length
pub copied : (from to : List Float) → length to ≡ length from → replaced from to ≡ from
copied from to e = rw (eq-eqb (length to) (length from) e)
