-- `offer::hand_out` meets its contract. Assumes nothing.
use mathlib.Core.Path.{sym, ◌∙◌, ap}
use Rattle.vectors.specs.Vector.{norm}
use Rattle.vectors.proofs.Sizes.{failed, passed}
use Rattle.offer.proofs.Offers.{first_part, second_part, step_copied, refuses, hands_out}
use Rattle.offer.proofs.hand_out.Goals as goal

pub returns-then-not-all_finite : goal.returns-then-not-all_finite
returns-then-not-all_finite c =
    refuses _ _ _ _ _ _ _ _ _ c.lay_trial.ensures c.lay_trial.auto.w _ _ (second_part _ _) c.clear.ensures (failed c.all_finite.ensures c.if-not-all_finite.true)

pub measured-requires : goal.measured-requires
measured-requires c =
    (c.requires.1, c.copy.auto.to ∙ c.requires.3, c.requires.5 ∙ ap norm (sym (step_copied _ _ _ _ c.args.step.now _ (c.lay_trial.ensures 0) c.lay_trial.auto.w (first_part _ _) c.requires.0 c.requires.3 c.copy.ensures)))

pub returns : goal.returns
returns c =
    hands_out _ _ _ _ _ _ _ _ _ c.lay_trial.ensures c.lay_trial.auto.w _ _ (second_part _ _) c.clear-2.ensures
    _ _ _ _ _ (passed c.all_finite.ensures c.if-not-all_finite.false) (first_part _ _) (second_part _ _) c.requires.0 c.requires.3 c.requires.4
    c.copy.ensures c.copy-2.ensures c.measured.ensures
