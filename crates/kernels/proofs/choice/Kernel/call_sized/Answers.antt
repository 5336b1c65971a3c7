-- `kernels::choice::Kernel::call_sized` meets its contract. Assumes nothing.
use Rattle.vectors.proofs.Sizes.{was_right}
use mathlib.Core.Path.{sym, ◌∙◌}
use mathlib.Core.Path.{refl}
use Rattle.kernels.proofs.Kernels.{sized_by, by_check, over_ready, took_setting, took_entry, goes_on, took}
use Rattle.kernels.proofs.Choices.{by_name_proper}
use Rattle.kernels.proofs.choice.Kernel.call_sized.Goals as goal

pub returns-in_err-unless : goal.returns-in_err-unless
returns-in_err-unless c =
    let x = by_check _ _ _ c.from_residual.result c.from_residual.ensures.1 c.in_err-unless.ensures in
    rw x.0 (took_setting _ _ _ _ _ _ _ _ (sized_by c.args.problem.now.square c.args.problem.now.long c.requires) (sym c.settings_right.ensures ∙ x.1))

pub returns-in_err-unless-2 : goal.returns-in_err-unless-2
returns-in_err-unless-2 c =
    let x = by_check _ _ _ c.from_residual-in_err-unless-2.result c.from_residual-in_err-unless-2.ensures.1 c.in_err-unless-2.ensures in
    rw x.0 (took_entry _ _ _ _ _ _ _ _ (sized_by c.args.problem.now.square c.args.problem.now.long c.requires) (sym c.settings_right.ensures ∙ was_right _ _ c.in_ok-unless.ensures) (sym c.both_finite.ensures ∙ x.1))

pub hand_over-requires : goal.hand_over-requires
hand_over-requires c = over_ready _ (sized_by c.args.problem.now.square c.args.problem.now.long c.requires) c.lay-found.auto.w

pub returns : goal.returns
returns c =
    rw (goes_on _ _ _ _ _ _ _ _ (sized_by c.args.problem.now.square c.args.problem.now.long c.requires) (sym c.settings_right.ensures ∙ was_right _ _ c.in_ok-unless.ensures) (sym c.both_finite.ensures ∙ was_right _ _ c.in_ok-unless-2.ensures))
    (took _ _ _ _ _ _ _ _ c.lay-found.auto.w (over_ready _ (sized_by c.args.problem.now.square c.args.problem.now.long c.requires) refl).1 c.hand_over.ensures _ (by_name_proper _ _ _ _ _) c.lay-found.ensures)
