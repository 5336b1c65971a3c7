-- `kernels::choice::direct` meets its contract. Assumes nothing.
use Rattle.std.proofs.lemmas.Result.{err_from_is_err_and}
use Rattle.kernels.proofs.Kernels.{by_check, took_size}
use Rattle.kernels.proofs.Choices.{took_unknown}
use Rattle.kernels.proofs.choice.direct.Goals as goal

pub returns-in_err-lent : goal.returns-in_err-lent
returns-in_err-lent c =
    let x = by_check _ _ _ c.from_residual.result c.from_residual.ensures.1 c.in_err-lent.ensures.says in
    rw x.0 (took_size _ _ _ _ _ _ _ _ x.1)

pub returns-in_err-try_from : goal.returns-in_err-try_from
returns-in_err-try_from c =
    let p = err_from_is_err_and c.from_residual-in_err-try_from.result c.from_residual-in_err-try_from.ensures.1 in
    rw (p.1, p.2, c.in_err-try_from.ensures.1) (took_unknown _ _ _ _ _ _ _ _ c.in_ok-lent.ensures.right c.in_err-try_from.ensures.0)

pub returns : goal.returns
returns c = let names = c.in_ok-try_from.ensures in rw (← names.1, ← names.2) c.call_sized.ensures
