-- A kernel called directly on a case's own lists gives what `run` says. Assumes nothing.
use mathlib.Core.Path.{◌≡◌, ◌∙◌, ap}
use mathlib.Core.Bool.{true}
use mathlib.Core.List.{List, [], ◌∷◌}
use Prim.Native.Nat.{ℕ, ◌+◌, ◌*◌}
use lib.ListN.{length}
use lib.Ieee.{Float}
use borrow.Author.Tests.{eq-eqb}
use Rattle.vectors.specs.Refusal.{all_hold, size, sized, room, Square, Roomy}
use Rattle.kernels.specs.Kernel.{called, Took}
use Rattle.kernels.specs.Choice.{asked, kernel}
use Rattle.kernels.specs.declared.choice.Choice.{Choice}
use Rattle.std.specs.Prelude.{Result}
use Rattle.vectors.specs.declared.refusal.Refusal.{Refusal}
use Rattle.kernels.specs.declared.kernel.Stepped.{Stepped}
use Rattle.vectors.proofs.Vectors.{length_tab}
use Rattle.vectors.proofs.Sizes.{size_test}
use Rattle.case.specs.Case.{numbers, choice_of, radius_of, run}

-- the sizes are right, so refusals 2 and 4 are left of its checks
run_called : (c : Choice) (n : ℕ) (radius : Float) (g H step w : List Float) (r : Result Stepped Refusal) (step' w' : List Float)
    → Square n (length H) → length g ≡ n → length step ≡ n → Roomy n (length w)
    → Took (called (asked c) (kernel c) n radius g H step w) r step step' w w' → Took (run c n radius g H) r step step' w w'
unfolding called run
run_called c n radius g H step w r step' w' square gradient long roomy h =
    let sizes : all_hold (size n ∷ sized (n * n) H ∷ sized n g ∷ sized n step ∷ sized (room n) w ∷ []) ≡ true = rw (size_test square, eq-eqb (length H) (n * n) square.long, eq-eqb (length g) n gradient, eq-eqb (length step) n long, eq-eqb (length w) (room n) roomy.long) in
    rw sizes at h

numbers_long : (bytes : List ℕ) (i k : ℕ) → length (numbers bytes i k) ≡ k
unfolding numbers
numbers_long bytes i k = length_tab k _

-- of the case's own words, read into g' and H' of a and b numbers
pub run_read : (bytes : List ℕ) (n a b : ℕ) (g' H' : List Float) (c : Choice) (radius : Float) (r : Result Stepped Refusal) (step step' w w' : List Float)
    → Square n b × (a ≡ n) × (length step ≡ n) × Roomy n (length w)
    → g' ≡ numbers bytes 5 a → H' ≡ numbers bytes (5 + n) b → c ≡ choice_of bytes → radius ≡ radius_of bytes
    → Took (called (asked c) (kernel c) n radius g' H' step w) r step step' w w'
    → Took (run (choice_of bytes) n (radius_of bytes) (numbers bytes 5 n) (numbers bytes (5 + n) (n * n))) r step step' w w'
    × (g' ≡ numbers bytes 5 n) × (H' ≡ numbers bytes (5 + n) (n * n))
run_read bytes n a b g' H' c radius r step step' w w' lent read reads chosen far t =
    let p = read ∙ ap (numbers bytes 5) lent.1 in
    let q = reads ∙ ap (numbers bytes (5 + n)) lent.0.long in
    let square : Square n (length (numbers bytes (5 + n) (n * n))) = record { low = lent.0.low; high = lent.0.high; long = numbers_long bytes (5 + n) (n * n) } in
    (run_called (choice_of bytes) n (radius_of bytes) (numbers bytes 5 n) (numbers bytes (5 + n) (n * n)) step w r step' w' square (numbers_long bytes 5 n) lent.2 lent.3 (rw (p, q, chosen, far) at t), p, q)
