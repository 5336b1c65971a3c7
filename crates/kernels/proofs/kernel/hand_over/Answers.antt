-- `kernels::kernel::hand_over` meets its contract. Assumes nothing.
use mathlib.Core.Path.{sym, ◌∙◌}
use lib.Seq.{length-take-le}
use Rattle.vectors.proofs.Slots.{puts_whole}
use Rattle.kernels.proofs.kernel.hand_over.Goals as goal

pub returns : goal.returns
returns c =
    let asked = c.requires in
    (sym c.in_ok-made.was, rw c.in_ok-made.was (puts_whole _ _ _ _ c.put.ensures (c.put.auto.w ∙ asked.0) ∙ c.part.ensures.0), rw (c.in_ok-made.was, c.clear.ensures, length-take-le _ _ asked.1))
