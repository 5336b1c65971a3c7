-- `sr1::sr1_trustregion::propose` meets its contract. Assumes nothing.
use Rattle.std.proofs.lemmas.Result.{err_from_is_err_and}
use Rattle.sr1.proofs.Ends.{proposes_not, proposes_done, proposes_so}
use Rattle.sr1.proofs.sr1_trustregion.propose.Goals as goal

pub returns-in_err-proposal : goal.returns-in_err-proposal
returns-in_err-proposal c =
    let p = err_from_is_err_and c.from_residual.result c.from_residual.ensures.1 in
    rw (p.1, p.2) (proposes_not _ _ _ _ _ _ _ _ _ c.converged.ensures c.if-converged.true _ (rw c.asked.ensures at c.in_err-proposal.ensures))

pub returns-then-converged : goal.returns-then-converged
returns-then-converged c = proposes_done _ _ _ _ _ _ _ _ _ c.converged.ensures c.if-converged.true (rw c.asked.ensures at c.in_ok-proposal.ensures) _ c.clear.ensures

pub returns : goal.returns
returns c = proposes_so _ _ _ _ _ _ _ _ _ c.converged.ensures c.if-converged.false _ _ _ _ c.propose.auto.step c.propose.ensures
