-- `sr1::gain::Gain::write_rows` meets its contract. The loop's invariant: the first i rows are the new ones. Assumes nothing.
use borrow.Author.Rules.{rules}
use Rattle.sr1.proofs.Hessians.{gaining_more, gaining_done}
use Rattle.sr1.proofs.gain.Gain.write_rows.Goals as goal

pub loop-i-preserved : goal.loop-i-preserved
loop-i-preserved c = gaining_more c.loop-i.invariant c.loop-i-test.true _ c.write_row.ensures c.write_row.auto.hessian

pub returns : goal.returns
returns c = gaining_done c.loop-i.invariant (search rules) c.requires.long
