-- `fit::next` meets its contract. Assumes nothing.
use Rattle.std.proofs.Common.{sym, ◌∙◌}
use Rattle.station.specs.Lists.{held}
use Rattle.script.proofs.Encoded.{decoded_asked}
use Rattle.fit.proofs.Turns.{comes_call}
use Rattle.fit.proofs.next.Goals as goal

pub returns-clause-performed : goal.returns-clause-performed
returns-clause-performed c =
    let a = c.args in
    comes_call a.n a.session (held a.lists.now) a.words.now a.held c.requires.0 (sym c.is_end.ensures ∙ c.if-is_end.false) _
    (decoded_asked _ a.n _ (rw c.kind.ensures at c.decode-told.ensures) c.requires.1 c.requires.2) _ _ c.perform.ensures.performs
