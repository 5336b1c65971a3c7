-- `root::root` meets its contract. Assumes nothing.
use mathlib.Core.Path.{◌≡◌, sym, ap, ◌∙◌, subst}
use mathlib.Core.Bool.{true}
use lib.Dec.{T}
use lib.Ieee.{Float, binary64, fits}
use lib.Ieee.Bits.{of_bits-to_bits}
use Rattle.root.specs.Root.{root}
use Rattle.root.proofs.Ends.{bits_pos, bits_below, root_top, root_zero, root_none}
use Rattle.root.proofs.root.Goals as goal
use Rattle.root.proofs.root.Goals.{else-x-via-then-x+else-x-2, else-x-via-else-x}

-- what owning an f64 tells: the format holds it
held : (x : Float) → fits binary64 x ≡ true → T (fits binary64 x)
held x e = subst T (sym e) tt

pub root_bits-requires : goal.root_bits-requires
root_bits-requires c =
    let f = held c.args.x c.well_formed.0.1 in
    (bits_pos c.args.x f c.if-x.true, bits_below c.args.x f c.if-x.true c.if-x-2.true)

pub returns-then-x-2 : goal.returns-then-x-2
returns-then-x-2 c = c.root_bits.ensures.0 ∙ ap root (of_bits-to_bits binary64 c.args.x (held c.args.x c.well_formed.0.1))

pub returns-then-x-3 : goal.returns-then-x-3
returns-then-x-3 c =
    elim c.else-x.branch [
      | else-x-via-then-x+else-x-2 w ↦ root_top c.args.x w.if-x.true w.if-x-2.false
      | else-x-via-else-x w ↦ root_zero c.args.x w.if-x.false c.if-x-3.true
    ]

pub returns-else-x-3 : goal.returns-else-x-3
returns-else-x-3 c = root_none c.args.x c.if-x-3.false
