-- `kernels::inverse::clear_rows` meets its contract. The loop's invariant: the first i rows are cleared. Assumes nothing.
use mathlib.Core.Path.{refl, ◌∙◌, ap}
use Prim.Native.Nat.{◌+◌}
use Rattle.vectors.specs.Slots.{slot}
use Rattle.kernels.specs.Inverse.{rows_in, cleared}
use Rattle.kernels.proofs.Rows.{roomy_same, cleared_one, cleared_none, still_apart}
use Rattle.kernels.proofs.inverse.clear_rows.Goals as goal
use Rattle.kernels.proofs.inverse.clear_rows.Goals.{then-i-j, else-i-j}

pub loop-i-init : goal.loop-i-init
unfolding cleared
loop-i-init c = (refl, refl)

pub clear_row-requires : goal.clear_row-requires
clear_row-requires c =
    let inv = c.loop-i.invariant in
    (roomy_same c.requires.0 c.loop-i.auto.w, c.requires.1, c.loop-i-test.true, still_apart _ _ _ _ c.loop-i.i c.requires.2 inv.0 inv.1)

pub loop-i-preserved : goal.loop-i-preserved
loop-i-preserved c =
    let inv = c.loop-i.invariant in
    let n = c.args.n in
    elim c.if-i-j.branch [
      | then-i-j v ↦ (ap (λ w. rows_in w n) v.w-is ∙ cleared_one _ _ _ _ _ inv.0 _ v.if-i-j.true v.clear_row.ensures.0, ap (λ w. slot w (n + n) 0) v.w-is ∙ v.clear_row.ensures.1 ∙ inv.1)
      | else-i-j v ↦ (ap (λ w. rows_in w n) v.w-is ∙ cleared_none _ _ _ _ _ inv.0 v.if-i-j.false, ap (λ w. slot w (n + n) 0) v.w-is ∙ inv.1)
    ]
