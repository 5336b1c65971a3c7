-- `words::spell` meets its contract. What is still to be written, before what is there, is the whole. Assumes nothing.
use Rattle.std.proofs.Common.{◌≡◌, ◌≤◌, ◌∙◌, length, arith}
use Rattle.words.specs.Words.{hex_of}
use Rattle.words.proofs.Laws.{hex_step}
use Rattle.words.proofs.spell.Goals as goal

pub loop-i-preserved : goal.loop-i-preserved
loop-i-preserved c =
    let head = c.loop-i in
    let inside : head.i ≤ length head.text = omega arith in
    hex_step head.text head.i head.rest c.glyph.result c.loop-i-test.true inside c.glyph.ensures ∙ head.invariant

pub returns : goal.returns
unfolding hex_of
returns c =
    let none : c.loop-i.i ≡ 0 = omega arith in
    rw none at c.loop-i.invariant
