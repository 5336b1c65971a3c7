-- `Reading::read` meets its contract. Assumes nothing.
use Rattle.std.proofs.Common.{arith}
use Rattle.fit.proofs.Words.{partly_none, partly_more, partly_less, partly_whole}
use Rattle.fit.proofs.reading.Reading.read.Goals as goal

pub loop-held-init : goal.loop-held-init
loop-held-init c = partly_none _ c.wanted-want.ensures

pub fill-held-requires : goal.fill-held-requires
fill-held-requires c = let inv = c.loop-held.invariant in (omega (arith, c.loop-held-test.true), omega (arith, inv.small, inv.words_long, c.requires))

pub more-want-requires : goal.more-want-requires
more-want-requires c =
    let filled = c.fill-held in
    let inv = c.loop-held.invariant in
    omega (arith, filled.ensures.within, inv.small, inv.words_long, c.requires, filled.auto.words)

pub loop-held-smaller : goal.loop-held-smaller
loop-held-smaller c = partly_less _ c.loop-held.invariant c.loop-held-test.true c.fill-held.ensures

pub loop-held-preserved : goal.loop-held-preserved
loop-held-preserved c = partly_more _ c.loop-held.invariant c.loop-held-test.true c.fill-held.auto.words c.requires c.fill-held.ensures c.more-want.ensures

pub returns : goal.returns
returns c = partly_whole _ c.loop-held.invariant (omega (arith, c.loop-held-test.false))
