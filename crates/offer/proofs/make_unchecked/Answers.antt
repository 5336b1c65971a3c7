-- `offer::make_unchecked` meets its contract. Assumes nothing.
use mathlib.Core.Path.{sym}
use native.Mathlib.Omega.{arith}
use borrow.Author.Tests.{eq-eqb, ne_eqb}
use Rattle.std.proofs.lemmas.Result.{err_from_is_err_and}
use Rattle.offer.proofs.Lengths.{used_room, hand_out_ready}
use Rattle.offer.proofs.Offers.{lent, no_checks, no_radius, too_hidden, no_step, norm_laid, step_made}
use Rattle.offer.proofs.make_unchecked.Goals as goal

pub returns-in_err-proposal : goal.returns-in_err-proposal
returns-in_err-proposal c =
    let p = err_from_is_err_and c.from_residual.result c.from_residual.ensures.1 in
    rw (p.1, p.2) (no_checks _ _ _ _ _ _ _ _ _ (sym c.in_err-proposal.ensures))

pub returns-then-state : goal.returns-then-state
returns-then-state c = no_radius _ _ _ _ _ _ _ _ (sym c.in_ok-proposal.ensures) c.if-state.true

pub returns-then-state-asked : goal.returns-then-state-asked
returns-then-state-asked c =
    too_hidden _ _ _ _ _ _ _ _ (sym c.in_ok-proposal.ensures) c.if-state.false (eq-eqb _ _ c.if-state-asked.true)

pub returns-in_err-laid : goal.returns-in_err-laid
returns-in_err-laid c =
    let p = err_from_is_err_and c.from_residual-in_err-laid.result c.from_residual-in_err-laid.ensures.1 in
    let a = c.args in
    rw (p.1, p.2) (no_step a.asked a.n a.point.now a.gradient.now a.hessian.now a.step.now a.trial.now a.scratch.now (sym c.in_ok-proposal.ensures) c.if-state.false (ne_eqb _ _ c.if-state-asked.false) _ _ c.in_err-laid.ensures)

pub overflow_add-used : goal.overflow_add-used
overflow_add-used c =
    let a = c.args in
    omega (arith, (lent a.asked a.n a.point.now a.gradient.now a.hessian.now a.step.now a.trial.now a.scratch.now (sym c.in_ok-proposal.ensures)).square.high)

-- the kernel left the scratch its length
pub slice_bounds-used-end : goal.slice_bounds-used-end
slice_bounds-used-end c =
    let a = c.args in
    used_room _ (lent a.asked a.n a.point.now a.gradient.now a.hessian.now a.step.now a.trial.now a.scratch.now (sym c.in_ok-proposal.ensures)) c.lay_unchecked.auto.scratch

pub hand_out-requires : goal.hand_out-requires
hand_out-requires c =
    let a = c.args in
    hand_out_ready _ (lent a.asked a.n a.point.now a.gradient.now a.hessian.now a.step.now a.trial.now a.scratch.now (sym c.in_ok-proposal.ensures)) c.lay_unchecked.auto.scratch
    (norm_laid a.asked a.n a.point.now a.gradient.now a.hessian.now a.step.now a.trial.now a.scratch.now (sym c.in_ok-proposal.ensures) c.if-state.false (ne_eqb _ _ c.if-state-asked.false) _ _ c.in_ok-laid.ensures)

pub returns : goal.returns
returns c =
    let a = c.args in
    step_made a.asked a.n a.point.now a.gradient.now a.hessian.now a.step.now a.trial.now a.scratch.now (sym c.in_ok-proposal.ensures) c.if-state.false (ne_eqb _ _ c.if-state-asked.false) _ _ c.in_ok-laid.ensures
    _ _ _ _ c.lay_unchecked.auto.scratch c.hand_out.ensures
