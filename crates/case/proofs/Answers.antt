-- What a case's answer leaves in the lists that were lent, from what the kernel leaves in their fronts. Assumes nothing.
use mathlib.Core.Path.{◌≡◌, sym, ◌∙◌, ap}
use mathlib.Core.Bool.{Bool, true, false, cond, ◌&&◌}
use mathlib.Core.List.{List, [], ◌∷◌, ◌++◌}
use Prim.Native.Nat.{ℕ, ◌+◌, ◌*◌, ◌≤◌}
use native.Mathlib.Omega.{arith}
use lib.Dec.{eqb, leb}
use Rattle.std.specs.Prelude.{Result, Ok, Err}
use lib.ListN.{length, take, drop, take-append-drop}
use lib.Seq.{length-take-le}
use lib.Ieee.{Float}
use borrow.Author.Tests.{leb-true}
use Rattle.vectors.specs.Refusal.{Answer, refused, given, Check, unless, checked, size, room, Square, Roomy, left_in}
use Rattle.kernels.specs.Kernel.{Made, Proper, Took}
use Rattle.kernels.specs.Choice.{kernel}
use Rattle.vectors.specs.declared.refusal.Refusal.{Refusal}
use Rattle.vectors.specs.declared.refusal.Refusal.TheVariants.{Size}
use Rattle.kernels.specs.declared.choice.Choice.{Choice}
use Rattle.kernels.specs.declared.kernel.Stepped.{Stepped}
use Rattle.vectors.proofs.Sizes.{was_right, both, size_true, square_small}
use Rattle.vectors.proofs.Vectors.{length_tab}
use Rattle.kernels.proofs.Choices.{kernel_proper}
use Rattle.case.specs.declared.Step.{Step}
use Rattle.case.specs.Case.{numbers, choice_of, size_of, radius_of, gradient_of, hessian_of, fits, run_checks, run, case_answer, enough, answer_in, said, in_front, Answered}

-- what is said of a kernel's own answer, for a step of n numbers
abbrev pub told : ℕ → Result Stepped Refusal → Result Step Refusal
told n (Ok made) = Ok (record { size = n; passes = made.passes })
told n (Err r) = Err r

-- ---- a step has n numbers

abbrev Long : ℕ → Answer Made → Type 0
Long n (refused r) = Unit {0}
Long n (given m) = length m.step ≡ n

proper_long : (n : ℕ) (a : Answer Made) → Proper n a → Long n a
proper_long n (refused r) p = tt
proper_long n (given m) p = p

one_long : (n : ℕ) (b : Bool) (r : Refusal) (a : Answer Made) → Long n a → Long n (cond b (refused r) a)
one_long n true r a p = tt
one_long n false r a p = p

unless_long : (n : ℕ) (cs : List Check) (a : Answer Made) → Long n a → Long n (unless cs a)
unless_long n [] a p = p
unless_long n (c ∷ cs) a p = one_long n c.applies c.refusal (unless cs a) (unless_long n cs a p)

run_long : (c : Choice) (n : ℕ) (radius : Float) (g H : List Float) → Long n (run c n radius g H)
unfolding run
run_long c n radius g H =
    let a = kernel c n radius g H in
    unless_long n (run_checks c radius g H) a (proper_long n a (kernel_proper c n radius g H))

-- ---- sizes, past the tests

pub record Sizes (n a b c d : ℕ) : Type 0 where
  pub low : 1 ≤ n
  pub high : n ≤ 64
  pub square : n * n ≤ 4096
  pub gradient : 64 ≤ a
  pub hessian : 4096 ≤ b
  pub step : 64 ≤ c
  pub scratch : 8704 ≤ d

pub sizes_true : (bytes n g H step w : ℕ) → enough g H step w ≡ true → fits bytes n ≡ true → Sizes n g H step w
sizes_true bytes n g H step w e f =
    let p = both (leb 64 g && leb 4096 H && leb 64 step) (leb 8704 w) e in
    let q = both (leb 64 g && leb 4096 H) (leb 64 step) p.0 in
    let r = both (leb 64 g) (leb 4096 H) q.0 in
    let s = size_true n (both (size n) (eqb bytes (8 * (5 + n + n * n))) f).0 in record {
      low = s.0;
      high = s.1;
      square = square_small n s.1;
      gradient = leb-true 64 g r.0;
      hessian = leb-true 4096 H r.1;
      step = leb-true 64 step q.1;
      scratch = leb-true 8704 w p.1;
    }

-- the same, of what the code asked by `?`
pub sizes_asked : (bytes n g H step w : ℕ) {p q : Bool} {u v : Unit {0}} → p ≡ enough g H step w → Ok u ≡ checked Size p → q ≡ fits bytes n → Ok v ≡ checked Size q → Sizes n g H step w
sizes_asked bytes n g H step w e a f b = sizes_true bytes n g H step w (sym e ∙ was_right _ _ a) (sym f ∙ was_right _ _ b)

-- so the fronts that the code lends are there
pub fronts : {n g H step w : ℕ} → Sizes n g H step w → (n ≤ g) × (n * n ≤ H) × (n ≤ step) × (room n ≤ w)
fronts s = (omega (arith, s), omega (arith, s), omega (arith, s), omega (arith, s))

-- the parts that are lent to the kernel
pub parts : (n : ℕ) (g H step w : List Float) → Sizes n (length g) (length H) (length step) (length w)
    → Square n (length (take (n * n) H)) × (length (take n g) ≡ n) × (length (take n step) ≡ n) × Roomy n (length (take (room n) w))
parts n g H step w s = (
  record { low = s.low; high = s.high; long = length-take-le (n * n) H (omega arith) },
  length-take-le n g (omega arith),
  length-take-le n step (omega arith),
  record { high = s.high; long = length-take-le (room n) w (omega arith) },
)

-- ---- in room for the largest case the answer is the case's own

pub answer_wide : (bytes : List ℕ) (g H step w : List Float) → length g ≡ 64 → length H ≡ 4096 → length step ≡ 64 → length w ≡ 8704 → answer_in bytes g H step w ≡ case_answer bytes
unfolding answer_in
answer_wide bytes g H step w a b c d = rw (a, b, c, d)

-- ---- the three ends

module _ (bytes : List ℕ) (g H step w : List Float) where
  abbrev room_enough : Bool
  room_enough = enough (length g) (length H) (length step) (length w)

  pub answered_narrow : room_enough ≡ false → Answered bytes (Err Size) g g H H step step w w
  unfolding answer_in
  answered_narrow e = record { says = rw e; leaves = rw e; gradient = rw e; hessian = rw e; clears = rw e (sym (take-append-drop (room (size_of bytes)) w)) }

  module _ (e : room_enough ≡ true) where
    pub answered_unfit : fits (length bytes) (size_of bytes) ≡ false → Answered bytes (Err Size) g g H H step step w w
    unfolding answer_in case_answer
    answered_unfit f = record { says = rw (e, f); leaves = rw (e, f); gradient = rw (e, f); hessian = rw (e, f); clears = rw (e, f) (sym (take-append-drop (room (size_of bytes)) w)) }

    module _ (f : fits (length bytes) (size_of bytes) ≡ true) where
      abbrev n : ℕ
      n = size_of bytes

      abbrev whole : Answer Made
      whole = run (choice_of bytes) n (radius_of bytes) (gradient_of bytes) (hessian_of bytes)

      answer_whole : answer_in bytes g H step w ≡ whole
      unfolding answer_in case_answer
      answer_whole = rw (e, f)

      module _ (found : Result Stepped Refusal) (s w' : List Float) where
        says_one : (a : Answer Made) → Long n a → Took a found (take n step) s (take (room n) w) w' → told n found ≡ said a
        says_one (refused r) p t = ap (told n) t.says
        says_one (given m) p t = rw p (ap (told n) t.says)

        leaves_one : (a : Answer Made) → Long n a → Took a found (take n step) s (take (room n) w) w' → s ++ drop n step ≡ left_in (λ m. in_front m.step step) a step
        leaves_one (refused r) p t = ap (λ (l : List Float). l ++ drop n step) t.leaves ∙ take-append-drop n step
        leaves_one (given m) p t = rw p (ap (λ (l : List Float). l ++ drop n step) t.leaves)

        answered_whole : (g' H' : List Float) → Took whole found (take n step) s (take (room n) w) w' → g' ≡ gradient_of bytes → H' ≡ hessian_of bytes
            → Answered bytes (told n found) g (g' ++ drop n g) H (H' ++ drop (n * n) H) step (s ++ drop n step) w (w' ++ drop (room n) w)
        unfolding numbers
        answered_whole g' H' t p q =
            let long = run_long (choice_of bytes) n (radius_of bytes) (gradient_of bytes) (hessian_of bytes) in record {
              says = rw answer_whole (says_one whole long t);
              leaves = rw answer_whole (leaves_one whole long t);
              gradient = rw (e, f, p, length_tab);
              hessian = rw (e, f, q, length_tab);
              clears = rw answer_whole (ap (λ (l : List Float). l ++ drop (room n) w) t.clears);
            }

      -- the same, in the words of the code: m is what it read for the size
      pub answered : (m : ℕ) (found : Result Stepped Refusal) (g' H' s w' : List Float) → m ≡ size_of bytes
          → Took (run (choice_of bytes) m (radius_of bytes) (numbers bytes 5 m) (numbers bytes (5 + m) (m * m))) found (take m step) s (take (room m) w) w'
          × (g' ≡ numbers bytes 5 m) × (H' ≡ numbers bytes (5 + m) (m * m))
          → Answered bytes (told m found) g (g' ++ drop m g) H (H' ++ drop (m * m) H) step (s ++ drop m step) w (w' ++ drop (room m) w)
      answered m found g' H' s w' i t = rw i (answered_whole found s w' g' H' (rw i at t.0) (rw i at t.1) (rw i at t.2))
