-- The code of a result is that of the answer for which it stands. Assumes nothing.
use mathlib.Core.Path.{◌≡◌, refl, ◌∙◌, ap}
use mathlib.Core.List.{List}
use Prim.Native.Nat.{ℕ}
use lib.Ieee.{Float}
use Rattle.std.specs.Prelude.{Result, Ok, Err}
use Rattle.vectors.specs.Refusal.{Answer, refused, given, stands_for, Wrote, Ended}
use Rattle.vectors.specs.declared.refusal.Refusal.{Refusal}
use Rattle.kernels.specs.Kernel.{Made, stepped, Took}
use Rattle.kernels.specs.declared.kernel.Stepped.{Stepped}
use Rattle.foreign.specs.Foreign.{code, result_code, Filled, Cleared, Numbered}

written_code : (o : Result (Unit {0}) Refusal) (v : List Float) → result_code o ≡ code (stands_for o v)
written_code (Ok x) v = refl
written_code (Err r) v = refl

pub fills : (a : Answer (List Float)) (o : Result (Unit {0}) Refusal) (r : ℕ) (v v' : List Float) → Wrote a o v v' → r ≡ result_code o → Filled a r v v'
fills a o r v v' w f = record { says = f ∙ written_code o v' ∙ ap code w.says; leaves = w.leaves }

pub clears : (a : Answer (List Float)) (o : Result (Unit {0}) Refusal) (r : ℕ) (v v' s s' : List Float) → Ended a o v v' s s' → r ≡ result_code o → Cleared a r v v' s s'
clears a o r v v' s s' w f = record { filled = fills a o r v v' w.wrote f; clears = w.clears }

stepped_code : (a : Answer Made) → result_code (stepped a) ≡ code a
stepped_code (refused r) = refl
stepped_code (given m) = refl

pub numbers : (a : Answer Made) (o : Result Stepped Refusal) (r : ℕ) (v v' s s' : List Float) → Took a o v v' s s' → r ≡ result_code o → Numbered a r v v' s s'
numbers a o r v v' s s' w f = record { says = f ∙ ap result_code w.says ∙ stepped_code a; leaves = w.leaves; clears = w.clears }
