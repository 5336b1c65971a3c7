-- `kernels::kernel::settle_by` meets its contract. Assumes nothing.
use Rattle.vectors.proofs.Sizes.{was_right}
use mathlib.Core.Path.{sym, ◌∙◌}
use Rattle.kernels.proofs.Kernels.{by_check, unsettled, settled}
use Rattle.kernels.proofs.kernel.settle_by.Goals as goal

pub returns-in_err-unless : goal.returns-in_err-unless
returns-in_err-unless c =
    let x = by_check _ _ _ c.from_residual.result c.from_residual.ensures.1 c.in_err-unless.ensures in
    rw x.0 (unsettled _ _ _ _ c.requires.1 (sym c.finite.ensures ∙ x.1))

pub returns : goal.returns
returns c =
    settled _ _ _ _ c.requires.1 _ (sym c.finite.ensures ∙ was_right _ _ c.in_ok-unless.ensures) c.requires.0 c.clear.ensures
