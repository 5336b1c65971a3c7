-- `Reader::word` meets its contract. Assumes nothing.
use Rattle.std.proofs.Common.{refl, sym, arith, ◌∙◌}
use Rattle.stream.proofs.Found.{there, not_there}
use Rattle.stream.proofs.input.Reader.word.Goals as goal

pub returns-in_default : goal.returns-in_default
returns-in_default c =
    let none = not_there _ _ _ (sym c.in_default.is ∙ c.held.ensures) in
    record { kept = refl; found = none.0; place = sym none.1; last = refl }

pub overflow_add-self : goal.overflow_add-self
overflow_add-self c = let found = there _ _ _ (sym c.in-Ok.is ∙ c.held.ensures) in omega arith

pub returns : goal.returns
returns c =
    let found = sym c.in-Ok.is ∙ c.held.ensures in
    record { kept = refl; found = found; place = sym (there _ _ _ found).1; last = refl }
