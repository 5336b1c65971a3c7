-- `kernels::inverse::inverse` meets its contract. Assumes nothing.
use mathlib.Core.Path.{sym, ◌∙◌}
use Rattle.std.proofs.lemmas.Result.{err_from_is_err_and}
use Rattle.vectors.proofs.Sizes.{was_right}
use Rattle.kernels.proofs.Rows.{roomy_same}
use Rattle.kernels.proofs.Ends.{lent_true, bad_size, bad_entry, bad_pivot, inverted}
use Rattle.kernels.proofs.inverse.inverse.Goals as goal
use Rattle.kernels.proofs.inverse.inverse.Goals.{then-is_ok, else-is_ok}

pub returns-in_err-unless : goal.returns-in_err-unless
returns-in_err-unless c =
    let p = err_from_is_err_and c.from_residual.result c.from_residual.ensures.1 in
    rw (p.1, p.2) (bad_size _ _ _ _ _ (rw c.sized.ensures at c.in_err-unless.ensures))

pub returns-in_err-unless-2 : goal.returns-in_err-unless-2
returns-in_err-unless-2 c =
    let p = err_from_is_err_and c.from_residual-in_err-unless-2.result c.from_residual-in_err-unless-2.ensures.1 in
    rw (p.1, p.2) (bad_entry _ _ _ _ (sym c.sized.ensures ∙ was_right _ _ c.in_ok-unless.ensures) _ (rw c.all_finite.ensures at c.in_err-unless-2.ensures))

pub eliminate-found-requires : goal.eliminate-found-requires
eliminate-found-requires c = let l = lent_true _ _ _ _ (sym c.sized.ensures ∙ was_right _ _ c.in_ok-unless.ensures) in (l.roomy, l.square)

pub hand_out-requires : goal.hand_out-requires
hand_out-requires c = let l = lent_true _ _ _ _ (sym c.sized.ensures ∙ was_right _ _ c.in_ok-unless.ensures) in (roomy_same l.roomy c.eliminate-found.auto.w, l.written)

pub returns : goal.returns
returns c =
    let sizes = sym c.sized.ensures ∙ was_right _ _ c.in_ok-unless.ensures in
    let entries = sym c.all_finite.ensures ∙ was_right _ _ c.in_ok-unless-2.ensures in
    let found = c.eliminate-found in
    elim c.if-is_ok.branch [
      | then-is_ok v ↦ inverted _ _ _ _ sizes entries _ _ _ found.auto.w c.clear.ensures _ _ found.ensures (sym c.is_ok.ensures.value ∙ v.if-is_ok.true) (v.out-is ∙ v.hand_out.ensures)
      | else-is_ok v ↦ rw v.out-is (bad_pivot _ _ _ _ sizes entries _ _ _ found.auto.w c.clear.ensures _ found.ensures (sym c.is_ok.ensures.value ∙ v.if-is_ok.false))
    ]
