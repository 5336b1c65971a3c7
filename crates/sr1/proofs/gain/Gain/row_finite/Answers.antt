-- `sr1::gain::Gain::row_finite` meets its contract. The loop's invariant: `all` says whether the first j entries will be finite. Assumes nothing.
use mathlib.Core.Path.{◌≡◌, ◌∙◌, ap, sym}
use Prim.Native.Nat.{ℕ}
use native.Mathlib.Numerals.{add-one}
use native.Mathlib.Omega.{arith}
use Rattle.float.specs.Numbers.{finite}
use Rattle.vectors.specs.Vector.{tab, all_finite}
use Rattle.vectors.proofs.Slots.{at_slot}
use Rattle.sr1.specs.Session.{gained_at, gained_row}
use Rattle.sr1.proofs.Hessians.{seen_none, seen_more}
use Rattle.sr1.proofs.gain.Gain.row_finite.Goals as goal

pub loop-j-init : goal.loop-j-init
loop-j-init c = seen_none _

pub loop-j-preserved : goal.loop-j-preserved
loop-j-preserved c =
    let a = c.args in
    -- the code's entry is the one that is meant
    let here : c.finite-all.result ≡ finite (gained_at a.self.now.n a.hessian.now a.self.now.z.now a.self.now.share a.i c.loop-j.j) =
    c.finite-all.ensures ∙ ap finite (c.entry.ensures ∙ rw (at_slot a.hessian.now a.self.now.n a.i c.loop-j.j c.loop-j-test.true)) in
    rw (c.loop-j.invariant, here, add-one) (sym (seen_more _ _))

pub returns : goal.returns
unfolding gained_row
returns c =
    let a = c.args in
    let all : c.loop-j.j ≡ a.self.now.n = omega arith in
    c.loop-j.invariant ∙ ap (λ (k : ℕ). all_finite (tab k (gained_at a.self.now.n a.hessian.now a.self.now.z.now a.self.now.share a.i))) all
