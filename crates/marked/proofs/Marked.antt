-- Every marked case gives what it wants: one claim over the table. Assumes nothing.
use mathlib.Core.Path.{◌≡◌, refl, ◌∙◌, ap}
use mathlib.Core.Bool.{true}
use mathlib.Core.List.{List, [], ◌∷◌, map}
use lib.IntN.{negsuc}
use lib.Ieee.{Float, fin, of_bits, add, sub, mul, div, neg, lt, le, eq, ne, is_nan}
use Rattle.float.specs.Constants.{one}
use Rattle.vectors.specs.Refusal.{given}
use Rattle.kernels.specs.Kernel.{made, handed_out}
use Rattle.kernels.specs.Dogleg.{unconstrained, newton}
use Rattle.kernels.specs.Textbook.{first_leg, first}
use Rattle.kernels.proofs.Legs.{on_leg}
use Rattle.marked.specs.Cases.{Case, kernel, ◌over◌, minus◌over◌, g, I, cases, textbook_example, textbook_moves, textbook_whole, textbook_inverses, textbook_zero, editions}

pub marked : map (λ (c : Case). c.gives) cases ≡ map (λ (c : Case). c.wants) cases
unfolding cases of_bits add sub mul div neg lt le eq is_nan
marked = refl

pub example_gives : textbook_example.gives ≡ textbook_example.wants
unfolding textbook_example of_bits add sub mul div neg lt le eq is_nan
example_gives = refl

-- worked out in three parts, the leg, its step and the test of that step, since each takes a root of many digits
moved : List Float
moved = fin true 1351079888211149 (negsuc 50) ∷ fin true 3602879701896397 (negsuc 51) ∷ []

its_leg : first_leg 2 one (unconstrained 2 g I) ≡ moved
unfolding moved textbook_moves first_leg unconstrained of_bits ◌over◌ add sub mul div neg lt le eq is_nan
its_leg = refl

its_test : handed_out (made 0 moved) ≡ given (made 0 moved)
unfolding moved textbook_moves handed_out of_bits add sub mul div neg lt le eq is_nan
its_test = refl

pub moves_gives : textbook_moves.gives ≡ textbook_moves.wants
unfolding textbook_moves moved of_bits ◌over◌ newton add sub mul div neg lt le eq is_nan
moves_gives = ap kernel (on_leg 2 one g I ((minus 3 over 1) ∷ (minus 4 over 1) ∷ []) first refl tt ∙ ap (λ (v : List Float). handed_out (made 0 v)) its_leg ∙ its_test)

pub whole_gives : textbook_whole.gives ≡ textbook_whole.wants
unfolding textbook_whole of_bits add sub mul div neg lt le eq is_nan
whole_gives = refl

pub zero_gives : textbook_zero.gives ≡ textbook_zero.wants
unfolding textbook_zero of_bits add sub mul div neg lt le eq is_nan
zero_gives = refl

pub inverses_give : map (λ (c : Case). c.gives) textbook_inverses ≡ map (λ (c : Case). c.wants) textbook_inverses
unfolding textbook_inverses of_bits add sub mul div neg lt le eq is_nan
inverses_give = refl

-- (the root is unfolded by way of `cases`)
pub editions_give : map (λ (c : Case). c.gives) editions ≡ map (λ (c : Case). c.wants) editions
unfolding editions cases of_bits add sub mul div neg lt le eq ne is_nan
editions_give = refl
