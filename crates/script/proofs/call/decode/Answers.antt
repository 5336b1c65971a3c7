-- `script::call::decode` meets its contract. Assumes nothing.
use mathlib.Core.Path.{sym, ◌∙◌}
use native.Mathlib.Omega.{arith}
use borrow.Author.Tests.{eq-eqb}
use Rattle.script.proofs.Calls.{whole_small}
use Rattle.script.proofs.call.decode.Goals as goal

pub overflow_add-n : goal.overflow_add-n
overflow_add-n c = let a = c.args in omega (arith, whole_small a.kind a.n a.words.now (eq-eqb _ _ (sym c.wanted.ensures ∙ c.if-wanted-words.false)))
