-- `vectors::vector::weighted_dot` meets its contract. Assumes nothing.
use Rattle.std.proofs.Common.{sym, ◌∙◌}
use Rattle.vectors.proofs.Sizes.{was_right, shaped_true}
use Rattle.vectors.proofs.vector.weighted_dot.Goals as goal

pub weighted_unchecked-requires : goal.weighted_unchecked-requires
weighted_unchecked-requires c = let s = shaped_true _ _ _ _ (sym c.shaped.ensures ∙ was_right _ _ c.in_ok-unless.ensures) in (s.square, s.first, s.second)
