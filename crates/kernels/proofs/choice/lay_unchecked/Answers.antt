-- `kernels::choice::lay_unchecked` meets its contract. Assumes nothing.
use Rattle.std.proofs.lemmas.Result.{err_from_is_err_and}
use Rattle.kernels.proofs.Kernels.{by_check}
use Rattle.kernels.proofs.Choices.{shut_size, shut_kernel, opened}
use Rattle.kernels.proofs.choice.lay_unchecked.Goals as goal

pub returns-in_err-lent : goal.returns-in_err-lent
returns-in_err-lent c =
    let x = by_check _ _ _ c.from_residual.result c.from_residual.ensures.1 c.in_err-lent.ensures.says in
    rw x.0 (shut_size _ _ _ _ _ _ x.1)

pub returns-in_err-kernel : goal.returns-in_err-kernel
returns-in_err-kernel c =
    let p = err_from_is_err_and c.from_residual-in_err-kernel.result c.from_residual-in_err-kernel.ensures.1 in
    rw (p.1, p.2, c.in_err-kernel.ensures.1) (shut_kernel _ _ _ _ _ _ c.in_ok-lent.ensures.right c.in_err-kernel.ensures.0)

pub returns : goal.returns
returns c =
    let names = c.in_ok-kernel.ensures in
    rw (opened _ _ _ _ _ _ c.in_ok-lent.ensures.right names.0, ← names.1) c.lay.ensures
