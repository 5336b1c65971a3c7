-- How the inverse ends, over the values. Assumes nothing.
use mathlib.Core.Path.{◌≡◌, refl, sym, ◌∙◌, ap, subst}
use mathlib.Core.Bool.{Bool, true, false, cond}
use mathlib.Core.List.{List, [], ◌∷◌}
use Prim.Native.Nat.{ℕ, zero, suc, ◌*◌}
use lib.Dec.{eqb}
use lib.ListN.{length}
use lib.Ieee.{Float}
use borrow.Author.Tests.{eqb-true}
use Rattle.std.specs.Prelude.{Result, Ok, Err}
use Rattle.std.specs.Result.{is_ok}
use Rattle.vectors.specs.Vector.{zeros, flat, all_finite}
use Rattle.vectors.specs.Refusal.{Answer, refused, given, checked, untouched_by, stands_for, all_hold, size, sized, room, Roomy, Ended}
use Rattle.vectors.specs.declared.refusal.Refusal.{Refusal}
use Rattle.vectors.specs.declared.refusal.Refusal.TheVariants.{Size, Entry, Pivot}
use Rattle.kernels.specs.Inverse.{Rows, entry, no_pivot, pivot_row, swapped, divided, cleared, column_by, column, start, pivot_bound, columns, eliminated, right_row, inverse_answer}
use Rattle.vectors.proofs.Sizes.{each_holds, square_by}
use Rattle.kernels.proofs.Kernels.{was_wrong, Late, then_late}

-- ---- the inverse

-- what its first check makes sure of
pub record Lent (n h out scratch : ℕ) : Type 0 where
  pub square : h ≡ n * n
  pub written : out ≡ n * n
  pub roomy : Roomy n scratch

pub lent_true : (n h out scratch : ℕ) → all_hold (size n ∷ eqb h (n * n) ∷ eqb out (n * n) ∷ eqb scratch (room n) ∷ []) ≡ true → Lent n h out scratch
lent_true n h out scratch e =
    let t = each_holds (size n ∷ eqb h (n * n) ∷ eqb out (n * n) ∷ eqb scratch (room n) ∷ []) e in
    let s = square_by n h t.0 t.1.0 in
    record { square = s.long; written = eqb-true out (n * n) t.1.1.0; roomy = record { high = s.high; long = eqb-true scratch (room n) t.1.1.1.0 } }

pub eliminates : (n : ℕ) (H : List Float) (bound : Float) (R : Rows) (o : Answer Rows) → bound ≡ pivot_bound H → R ≡ start n H → o ≡ columns bound n n 0 R → o ≡ eliminated n H
unfolding eliminated
eliminates n H bound R o b e f = f ∙ rw (b, e)

-- its refusals clear the scratch
column_late : (bound : Float) (n : ℕ) (R : Rows) (j : ℕ) → Late (column bound n R j)
unfolding column column_by
column_late bound n R j = pick (no_pivot bound (entry R (pivot_row n R j) j)) (cleared n (divided n (swapped R j (pivot_row n R j)) j) j n) where
  pick : (b : Bool) (S : Rows) → Late (cond b (refused Pivot) (given S))
  pick true S = refl
  pick false S = tt

columns_late : (bound : Float) (n k j : ℕ) (R : Rows) → Late (columns bound n k j R)
unfolding columns
columns_late bound n zero j R = tt
columns_late bound n (suc k) j R = then_late (columns bound n k (suc j)) (column bound n R j) (column_late bound n R j) (columns_late bound n k (suc j))

pub eliminated_late : (n : ℕ) (H : List Float) → Late (eliminated n H)
unfolding eliminated
eliminated_late n H = columns_late (pivot_bound H) n n 0 (start n H)

-- its ends
module _ (n : ℕ) (H out w : List Float) where
  abbrev sizes : Bool
  sizes = all_hold (size n ∷ sized (n * n) H ∷ sized (n * n) out ∷ sized (room n) w ∷ [])

  pub bad_size : (e : Refusal) → Err e ≡ checked Size sizes → Ended (inverse_answer n H out w) (Err e) out out w w
  unfolding inverse_answer
  bad_size e h = let x = was_wrong Size e sizes h in rw (x.0, x.1) (record { wrote = record { says = refl; leaves = refl }; clears = refl })

  module _ (a : sizes ≡ true) where
    pub bad_entry : (e : Refusal) → Err e ≡ checked Entry (all_finite H) → Ended (inverse_answer n H out w) (Err e) out out w w
    unfolding inverse_answer
    bad_entry e h = let x = was_wrong Entry e (all_finite H) h in rw (a, x.0, x.1) (record { wrote = record { says = refl; leaves = refl }; clears = refl })

    module _ (b : all_finite H ≡ true) (R : Rows) (len : ℕ) (w' : List Float) (l : len ≡ length w) (z : w' ≡ zeros len) where
      pub bad_pivot : (r : Result (Unit {0}) Refusal) → stands_for r R ≡ eliminated n H → is_ok r ≡ false → Ended (inverse_answer n H out w) r out out w w'
      unfolding inverse_answer
      bad_pivot (Ok x) e h = cc
      bad_pivot (Err x) e h =
          let late : untouched_by x ≡ false = subst Late (sym e) (eliminated_late n H) in
          rw (a, b, ← e) (record { wrote = record { says = refl; leaves = refl }; clears = rw late (z ∙ ap zeros l) })

      pub inverted : (r : Result (Unit {0}) Refusal) (out' : List Float) → stands_for r R ≡ eliminated n H → is_ok r ≡ true → out' ≡ flat n (right_row n R) → Ended (inverse_answer n H out w) r out out' w w'
      unfolding inverse_answer
      inverted (Err x) out' e h f = cc
      inverted (Ok x) out' e h f = rw (a, b, ← e) (record { wrote = record { says = ap given f; leaves = f }; clears = z ∙ ap zeros l })
