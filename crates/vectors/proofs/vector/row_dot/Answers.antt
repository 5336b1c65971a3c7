-- `vectors::vector::row_dot` meets its contract. Assumes nothing.
use mathlib.Core.Path.{◌≡◌, ◌∙◌}
use Rattle.vectors.specs.Vector.{row}
use Rattle.vectors.proofs.Sizes.{row_good}
use Rattle.vectors.proofs.vector.row_dot.Goals as goal

pub returns : goal.returns
returns c =
    let the_row : let a = c.args in c.row.result.now ≡ row a.n a.h.now a.i = c.row.ensures ∙ row_good _ _ _ c.requires.0 c.requires.1 in
    c.dot_any.ensures ∙ rw (the_row)
