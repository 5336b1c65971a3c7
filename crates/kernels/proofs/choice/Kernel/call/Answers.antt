-- `kernels::choice::Kernel::call` meets its contract. Assumes nothing.
use Rattle.kernels.proofs.Kernels.{by_check, took_size}
use Rattle.kernels.proofs.choice.Kernel.call.Goals as goal

pub returns-in_err-lent : goal.returns-in_err-lent
returns-in_err-lent c =
    let x = by_check _ _ _ c.from_residual.result c.from_residual.ensures.1 c.in_err-lent.ensures.says in
    rw x.0 (took_size _ _ _ _ _ _ _ _ x.1)
