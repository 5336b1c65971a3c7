-- Laws of a kernel's choice, and of the sessions' door. Assumes nothing.
use mathlib.Core.Path.{◌≡◌, refl, sym, ◌∙◌}
use mathlib.Core.Bool.{Bool, true, false, cond, ◌&&◌}
use mathlib.Core.List.{List, [], ◌∷◌}
use Prim.Native.Nat.{ℕ, ◌*◌}
use lib.Dec.{eqb}
use lib.ListN.{length}
use lib.Ieee.{Float}
use borrow.Author.Tests.{eq-eqb}
use Rattle.std.specs.Prelude.{Err}
use Rattle.vectors.specs.Refusal.{all_hold, size, sized, room}
use Rattle.kernels.specs.Kernel.{Kernel, Proper, positive, Lent, Laid, Took, called}
use Rattle.kernels.specs.CauchyPoint.{cauchy_point}
use Rattle.kernels.specs.Dogleg.{dogleg}
use Rattle.kernels.specs.Textbook.{textbook_dogleg}
use Rattle.kernels.specs.Steihaug.{steihaug}
use Rattle.kernels.specs.Choice.{known, ranges, in_range, asked, kernel, kernel_of, door}
use Rattle.vectors.specs.declared.refusal.Refusal.TheVariants.{Size, Setting}
use Rattle.kernels.specs.declared.choice.Choice.{Choice}
use Rattle.kernels.specs.declared.choice.Kernel.{Kernel as Named}
use Rattle.kernels.specs.declared.choice.Kernel.TheVariants as named
use Rattle.vectors.proofs.Sizes.{each_holds, size_test}
use Rattle.kernels.proofs.Kernels.{took_setting}
use Rattle.kernels.proofs.CauchyPoints.{cauchy_proper}
use Rattle.kernels.proofs.Doglegs.{dogleg_proper}
use Rattle.kernels.proofs.Textbooks.{textbook_proper}
use Rattle.kernels.proofs.Passes.{steihaug_proper}

-- a kernel's step has n numbers, and a kernel refuses from 6 on
pub kernel_proper : (c : Choice) (n : ℕ) (radius : Float) (g H : List Float) → Proper n (kernel c n radius g H)
unfolding kernel
kernel_proper c n radius g H = pick (eqb c.kernel 1) (eqb c.kernel 2) (eqb c.dogleg 1) where
  pick : (a b d : Bool) → Proper n (cond a cauchy_point (cond b (cond d dogleg textbook_dogleg) (steihaug c.epsilon c.limit)) n radius g H)
  pick true b d = cauchy_proper n radius g H
  pick false true true = dogleg_proper n radius g H
  pick false true false = textbook_proper n radius g H
  pick false false d = steihaug_proper c.epsilon c.limit n radius g H

pub by_name_proper : (k : Named) (n : ℕ) (radius : Float) (g H : List Float) → Proper n (kernel_of k n radius g H)
by_name_proper named.CauchyPoint = cauchy_proper
by_name_proper named.Dogleg = dogleg_proper
by_name_proper named.Textbook = textbook_proper
by_name_proper (named.Steihaug epsilon limit) = steihaug_proper epsilon limit

-- ---- a choice in range names a kernel, and a dogleg

pub in_range_known : (c : Choice) → in_range c ≡ true → known c ≡ true
unfolding in_range
in_range_known c e = (each_holds (ranges c) e).0

-- a choice that names none asks for too much of itself
pub unknown_asked : (c : Choice) → known c ≡ false → asked c ≡ false
unfolding asked in_range
unknown_asked c e = pick (eqb c.kernel 3) where
  pick : (b : Bool) → cond b (all_hold (ranges c)) (known c) ≡ false
  pick true = rw e
  pick false = e

-- so a direct caller's is refused by 2
pub took_unknown : (c : Choice) (k : Kernel) (n : ℕ) (radius : Float) (g H step w : List Float) → Lent n (length H) (length g) (length step) (length w) → known c ≡ false
    → Took (called (asked c) k n radius g H step w) (Err Setting) step step w w
took_unknown c k n radius g H step w l e = took_setting (asked c) k n radius g H step w l (pick (positive radius)) where
  pick : (b : Bool) → (b && asked c) ≡ false
  pick true = unknown_asked c e
  pick false = refl

-- ---- the door

-- the sizes, where the length of a step is tested too and is n
no_step : (n h g scratch : ℕ) → all_hold (size n ∷ eqb h (n * n) ∷ eqb g n ∷ eqb n n ∷ eqb scratch (room n) ∷ []) ≡ all_hold (size n ∷ eqb h (n * n) ∷ eqb g n ∷ eqb scratch (room n) ∷ [])
no_step n h g scratch = rw (eq-eqb n n refl)

module _ (c : Choice) (n : ℕ) (radius : Float) (g H w : List Float) where
  -- past its checks the door is open
  pub opened : {s : ℕ} → Lent n (length H) (length g) s (length w) → known c ≡ true → door c n radius g H w ≡ kernel c n radius g H
  unfolding door
  opened l k = rw (size_test l.square, eq-eqb (length H) (n * n) l.square.long, eq-eqb (length g) n l.gradient, eq-eqb (length w) (room n) l.roomy.long, k)

  abbrev sizes : Bool
  sizes = all_hold (size n ∷ sized (n * n) H ∷ sized n g ∷ eqb n n ∷ sized (room n) w ∷ [])

  pub shut_size : sizes ≡ false → Laid (door c n radius g H w) (Err Size) w w
  unfolding door
  shut_size e = rw (sym (no_step n (length H) (length g) (length w)) ∙ e) (record { says = refl; lays = refl })

  pub shut_kernel : {s : ℕ} → Lent n (length H) (length g) s (length w) → known c ≡ false → Laid (door c n radius g H w) (Err Setting) w w
  unfolding door
  shut_kernel l k = rw (size_test l.square, eq-eqb (length H) (n * n) l.square.long, eq-eqb (length g) n l.gradient, eq-eqb (length w) (room n) l.roomy.long, k) (record { says = refl; lays = refl })
