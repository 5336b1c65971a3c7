-- `kernels::inverse::columns` meets its contract. The loops' invariants: the columns that are left, over the rows that w holds, decide; p is the pivot
-- row among the rows down to i. Assumes nothing.
use mathlib.Core.Path.{◌∙◌, sym, ap}
use native.Mathlib.Omega.{arith}
use Rattle.float.specs.Numbers.{magnitude}
use Rattle.kernels.proofs.Rows.{moves, stays, pivot_first, pivot_found, column_ends, column_done, columns_more, columns_end}
use Rattle.kernels.proofs.inverse.columns.Goals as goal
use Rattle.kernels.proofs.inverse.columns.Goals.{then-seen-held, else-seen-held}

pub loop-i-init : goal.loop-i-init
loop-i-init c = (c.loop-j-test.true, pivot_first _ _)

pub loop-i-preserved : goal.loop-i-preserved
loop-i-preserved c =
    let inv = c.loop-i.invariant in
    let x = c.magnitude-held.ensures ∙ ap magnitude c.entry.ensures in
    let y = c.magnitude-seen.ensures ∙ ap magnitude c.entry-in-loop-i.ensures in
    elim c.if-seen-held.branch [
      | then-seen-held v ↦ (omega arith, v.p-is ∙ moves _ 0 _ _ _ (omega arith) inv.1 _ _ x y v.if-seen-held.true)
      | else-seen-held v ↦ (omega arith, v.p-is ∙ stays _ 0 _ _ _ (omega arith) inv.1 _ _ x y v.if-seen-held.false)
    ]

-- no pivot
pub returns-then-no_pivot : goal.returns-then-no_pivot
returns-then-no_pivot c =
    let p = pivot_found _ _ _ _ _ (omega arith) c.loop-i.invariant.1 (omega arith) (omega arith) in
    columns_more _ _ _ _ _ _ c.loop-j-test.true c.loop-j.invariant (column_ends _ _ _ _ _ _ p c.entry-in-loop-j.ensures (sym c.no_pivot.ensures ∙ c.if-no_pivot.true))

-- on to the next column
pub loop-j-preserved : goal.loop-j-preserved
loop-j-preserved c =
    let p = pivot_found _ _ _ _ _ (omega arith) c.loop-i.invariant.1 (omega arith) (omega arith) in
    columns_more _ _ _ _ _ _ c.loop-j-test.true c.loop-j.invariant
    (column_done _ _ _ _ _ _ p c.entry-in-loop-j.ensures _ _ (sym c.no_pivot.ensures ∙ c.if-no_pivot.false) c.take_pivot.ensures.0 c.clear_rows.ensures)

pub returns : goal.returns
returns c = columns_end _ _ _ _ _ (omega arith) c.loop-j.invariant
