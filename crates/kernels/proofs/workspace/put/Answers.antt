-- `kernels::workspace::put` meets its contract. The loop's invariant: the first i numbers of the part are v's. Assumes nothing.
use Prim.Native.Nat.{◌+◌, ◌*◌, ◌-◌}
use borrow.Author.Rules.{rules}
use Rattle.vectors.specs.Vector.{at}
use Rattle.vectors.proofs.Vectors.{tab_at}
use Rattle.kernels.proofs.Parts.{puts_part}
use Rattle.kernels.proofs.workspace.put.Goals as goal

pub returns : goal.returns
returns c =
    let a = c.args in
    rw (tab_at a.v.now a.n c.requires.1) at
    (puts_part a.w.now a.n a.to c.requires.0 c.loop-i.x-items (a.to * a.n + a.n - a.to * a.n) (at a.v.now) (search rules) (search rules) (λ k h. c.loop-i.invariant k (search rules)))
