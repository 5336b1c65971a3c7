-- `kernels::choice::Kernel::lay` meets its contract. Assumes nothing.
use mathlib.Core.Path.{sym, ◌∙◌}
use Rattle.kernels.proofs.Kernels.{laid_refused}
use Rattle.kernels.proofs.Choices.{by_name_proper}
use Rattle.kernels.proofs.choice.Kernel.lay.Goals as goal

pub returns-then-is_err : goal.returns-then-is_err
returns-then-is_err c =
    laid_refused _ _ _ _ _ _ (by_name_proper _ _ _ _ _) c.run-found.auto.w c.run-found.ensures (sym c.is_err.ensures.value ∙ c.if-is_err.true) c.clear.ensures
