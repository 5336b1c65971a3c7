-- `case::solve` meets its contract. Assumes nothing.
use mathlib.Core.Path.{◌∙◌}
use Rattle.case.proofs.Runs.{run_read}
use Rattle.case.proofs.solve.Goals as goal

pub returns : goal.returns
returns c =
    run_read _ _ _ _ _ _ _ _ _ _ _ _ _ c.requires c.fill.ensures c.fill-2.ensures
    (c.of-chosen.ensures ∙ rw (c.word.ensures, c.number.ensures, c.word-2.ensures)) c.number-radius.ensures c.direct.ensures
