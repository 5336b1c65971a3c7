-- `decimals::line` meets its contract. Assumes nothing.
use mathlib.Core.Path.{sym}
use lib.Seq.{length-take-le}
use Rattle.decimal.proofs.Puts.{told_within}
use Rattle.decimals.proofs.line.Goals as goal

pub slice_bounds-text-end : goal.slice_bounds-text-end
slice_bounds-text-end c = let wrote = c.write-n.ensures in rw (wrote.value, wrote.out_after) (told_within _ _)

pub slice_bounds-put_text-end : goal.slice_bounds-put_text-end
slice_bounds-put_text-end c = let wrote = c.write-n.ensures in sym (length-take-le _ _ (rw (wrote.value, wrote.out_after) (told_within _ _)))
