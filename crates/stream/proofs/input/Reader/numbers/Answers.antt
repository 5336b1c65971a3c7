-- `Reader::numbers` meets its contract. Before each turn the numbers so far have been read. Assumes nothing.
use Rattle.std.proofs.Common.{◌≡◌, arith, ◌∙◌}
use lib.ListN.{length-set}
use Rattle.stream.proofs.Filling.{filling_none, filling_more, front_long, fills_all, fills_some}
use Rattle.stream.proofs.input.Reader.numbers.Goals as goal

pub loop-x-init : goal.loop-x-init
loop-x-init c = filling_none _ _

pub loop-x-preserved : goal.loop-x-preserved
loop-x-preserved c = let long = front_long c.args.self.now c.args.out.now c.args.count c.if-out-count.false in filling_more (omega arith) c.loop-x.invariant c.in_ok-x.ensures

pub returns-in_err-x : goal.returns-in_err-x
returns-in_err-x c =
    let long = front_long c.args.self.now c.args.out.now c.args.count c.if-out-count.false in
    rw c.from_residual.ensures
    (fills_some _ _ _ c.if-out-count.false (omega arith) _ (length-set c.loop-x.x-items c.loop-x.x-index _ ∙ c.loop-x.auto.x-items) c.loop-x.invariant c.in_err-x.ensures)

pub returns : goal.returns
returns c =
    let long = front_long c.args.self.now c.args.out.now c.args.count c.if-out-count.false in
    let all : c.loop-x.x-index ≡ c.args.count = omega arith in
    fills_all _ _ _ c.if-out-count.false c.loop-x.auto.x-items (rw all at c.loop-x.invariant)
