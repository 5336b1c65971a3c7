-- `Page::put_text` meets its contract. Assumes nothing.
use Rattle.stream.proofs.Paper.{put_here, put_over, put_out}
use Rattle.stream.proofs.output.Page.put_text.Goals as goal

pub returns-then-put_text : goal.returns-then-put_text
returns-then-put_text c = let first = c.put_text.ensures in put_here _ _ first.value first.bytes_after c.if-put_text.true

pub returns-then-put_text-2 : goal.returns-then-put_text-2
returns-then-put_text-2 c =
    let first = c.put_text.ensures in
    let second = c.put_text-2.ensures in
    let left = c.flush.ensures in
    put_over _ _ first.value first.bytes_after c.if-put_text.false c.flush.new.self left.paper second.value second.bytes_after c.if-put_text-2.true

pub returns-else-put_text-2 : goal.returns-else-put_text-2
returns-else-put_text-2 c =
    let first = c.put_text.ensures in
    let second = c.put_text-2.ensures in
    let left = c.flush.ensures in
    rw left.place (put_out _ _ first.value first.bytes_after c.if-put_text.false c.flush.new.self left.paper second.value second.bytes_after c.if-put_text-2.false)
