-- `sr1::gain::Gain::rows_finite` meets its contract. The loop's invariant: the first i rows will be finite. Assumes nothing.
use mathlib.Core.Path.{◌≡◌, sym}
use native.Mathlib.Numerals.{add-one}
use native.Mathlib.Omega.{arith}
use Rattle.vectors.proofs.Sizes.{failed, passed}
use Rattle.sr1.specs.Session.{gained}
use Rattle.sr1.proofs.Hessians.{rows_none, rows_more, rows_bad}
use Rattle.sr1.proofs.gain.Gain.rows_finite.Goals as goal

pub loop-i-init : goal.loop-i-init
loop-i-init c = rows_none _

pub returns-then-not-row_finite : goal.returns-then-not-row_finite
unfolding gained
returns-then-not-row_finite c = sym (rows_bad _ _ _ c.loop-i-test.true (failed c.row_finite.ensures c.if-not-row_finite.true))

pub loop-i-preserved : goal.loop-i-preserved
loop-i-preserved c = rw add-one (rows_more _ _ c.loop-i.invariant (passed c.row_finite.ensures c.if-not-row_finite.false))

pub returns : goal.returns
unfolding gained
returns c =
    let all : c.loop-i.i ≡ c.args.self.now.n = omega arith in
    sym (rw all at c.loop-i.invariant)
