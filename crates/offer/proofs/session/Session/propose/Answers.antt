-- `offer::session::Session::propose` meets its contract. Assumes nothing.
use Rattle.std.proofs.lemmas.Result.{err_from_is_err_and}
use Rattle.offer.proofs.Sessions.{proposes_not, proposes}
use Rattle.offer.proofs.session.Session.propose.Goals as goal

pub returns-in_err-offered : goal.returns-in_err-offered
returns-in_err-offered g c =
    let p = err_from_is_err_and c.from_residual.result c.from_residual.ensures.1 in
    let a = c.args in
    rw (p.1, p.2) (proposes_not g.S.Kind.kind g.met.S.Kind.laws a.self.now a.n a.point.now a.gradient.now a.hessian.now a.step.now a.trial.now a.scratch.now _ _ _ _ (rw c.asked.ensures at c.in_err-offered.ensures))

pub returns : goal.returns
returns g c =
    let a = c.args in
    proposes g.S.Kind.kind g.met.S.Kind.laws a.self.now a.n a.point.now a.gradient.now a.hessian.now a.step.now a.trial.now a.scratch.now _ _ _ _ (rw c.asked.ensures at c.in_ok-offered.ensures)
    _ c.promise-value.ensures _ c.in_phase-self.ensures
