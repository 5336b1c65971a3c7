-- `case::answer` meets its contract. Assumes nothing.
use mathlib.Core.Path.{sym, ◌∙◌}
use lib.ListN.{length}
use lib.Seq.{length-take-le}
use Rattle.std.proofs.lemmas.Result.{err_from_is_err_and}
use Rattle.vectors.proofs.Sizes.{was_right}
use Rattle.kernels.proofs.Kernels.{was_wrong}
use Rattle.case.proofs.Answers.{sizes_asked, fronts, parts, answered_narrow, answered_unfit, answered}
use Rattle.case.proofs.answer.Goals as goal

pub returns-in_err-unless : goal.returns-in_err-unless
returns-in_err-unless c =
    let p = err_from_is_err_and c.from_residual.result c.from_residual.ensures.1 in
    let q = was_wrong _ _ _ c.in_err-unless.ensures in
    rw (p.1, p.2, q.1) (answered_narrow _ _ _ _ _ (sym c.enough.ensures ∙ q.0))

pub returns-in_err-unless-2 : goal.returns-in_err-unless-2
returns-in_err-unless-2 c =
    let p = err_from_is_err_and c.from_residual-in_err-unless-2.result c.from_residual-in_err-unless-2.ensures.1 in
    let q = was_wrong _ _ _ c.in_err-unless-2.ensures in
    rw (p.1, p.2, q.1) (answered_unfit _ _ _ _ _ (sym c.enough.ensures ∙ was_right _ _ c.in_ok-unless.ensures) (rw c.word-n.ensures at (sym c.fits.ensures ∙ q.0)))

pub slice_bounds-solve-end : goal.slice_bounds-solve-end
slice_bounds-solve-end c = let a = c.args in (fronts (sizes_asked _ _ (length a.gradient.now) (length a.hessian.now) (length a.step.now) (length a.scratch.now) c.enough.ensures c.in_ok-unless.ensures c.fits.ensures c.in_ok-unless-2.ensures)).0

pub slice_bounds-solve-end-2 : goal.slice_bounds-solve-end-2
slice_bounds-solve-end-2 c = let a = c.args in sym (length-take-le _ _ (fronts (sizes_asked _ _ (length a.gradient.now) (length a.hessian.now) (length a.step.now) (length a.scratch.now) c.enough.ensures c.in_ok-unless.ensures c.fits.ensures c.in_ok-unless-2.ensures)).0)

pub slice_bounds-solve-end-3 : goal.slice_bounds-solve-end-3
slice_bounds-solve-end-3 c = let a = c.args in (fronts (sizes_asked _ _ (length a.gradient.now) (length a.hessian.now) (length a.step.now) (length a.scratch.now) c.enough.ensures c.in_ok-unless.ensures c.fits.ensures c.in_ok-unless-2.ensures)).1

pub slice_bounds-solve-end-4 : goal.slice_bounds-solve-end-4
slice_bounds-solve-end-4 c = let a = c.args in sym (length-take-le _ _ (fronts (sizes_asked _ _ (length a.gradient.now) (length a.hessian.now) (length a.step.now) (length a.scratch.now) c.enough.ensures c.in_ok-unless.ensures c.fits.ensures c.in_ok-unless-2.ensures)).1)

pub slice_bounds-solve-end-5 : goal.slice_bounds-solve-end-5
slice_bounds-solve-end-5 c = let a = c.args in (fronts (sizes_asked _ _ (length a.gradient.now) (length a.hessian.now) (length a.step.now) (length a.scratch.now) c.enough.ensures c.in_ok-unless.ensures c.fits.ensures c.in_ok-unless-2.ensures)).2

pub slice_bounds-solve-end-6 : goal.slice_bounds-solve-end-6
slice_bounds-solve-end-6 c = let a = c.args in sym (length-take-le _ _ (fronts (sizes_asked _ _ (length a.gradient.now) (length a.hessian.now) (length a.step.now) (length a.scratch.now) c.enough.ensures c.in_ok-unless.ensures c.fits.ensures c.in_ok-unless-2.ensures)).2)

pub slice_bounds-solve-end-7 : goal.slice_bounds-solve-end-7
slice_bounds-solve-end-7 c = let a = c.args in (fronts (sizes_asked _ _ (length a.gradient.now) (length a.hessian.now) (length a.step.now) (length a.scratch.now) c.enough.ensures c.in_ok-unless.ensures c.fits.ensures c.in_ok-unless-2.ensures)).3

pub slice_bounds-solve-end-8 : goal.slice_bounds-solve-end-8
slice_bounds-solve-end-8 c = let a = c.args in sym (length-take-le _ _ (fronts (sizes_asked _ _ (length a.gradient.now) (length a.hessian.now) (length a.step.now) (length a.scratch.now) c.enough.ensures c.in_ok-unless.ensures c.fits.ensures c.in_ok-unless-2.ensures)).3)

pub solve-requires : goal.solve-requires
solve-requires c =
    let s = sizes_asked _ _ _ _ _ _ c.enough.ensures c.in_ok-unless.ensures c.fits.ensures c.in_ok-unless-2.ensures in
    let a = c.args in
    parts _ a.gradient.now a.hessian.now a.step.now a.scratch.now s

pub returns-in_err-made : goal.returns-in_err-made
returns-in_err-made c =
    let p = err_from_is_err_and c.from_residual-in_err-made.result c.from_residual-in_err-made.ensures.1 in
    let fit = rw c.word-n.ensures at (sym c.fits.ensures ∙ was_right _ _ c.in_ok-unless-2.ensures) in
    rw (p.1, p.2) (answered _ _ _ _ _ (sym c.enough.ensures ∙ was_right _ _ c.in_ok-unless.ensures) fit _ _ _ _ _ _ c.word-n.ensures c.in_err-made.ensures)

pub returns : goal.returns
returns c =
    let fit = rw c.word-n.ensures at (sym c.fits.ensures ∙ was_right _ _ c.in_ok-unless-2.ensures) in
    answered _ _ _ _ _ (sym c.enough.ensures ∙ was_right _ _ c.in_ok-unless.ensures) fit _ _ _ _ _ _ c.word-n.ensures c.in_ok-made.ensures
