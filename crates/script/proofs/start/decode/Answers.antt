-- `script::start::decode` meets its contract. Assumes nothing.
use mathlib.Core.Path.{sym, ◌∙◌}
use borrow.Author.Tests.{eq-eqb, ne_eqb}
use Rattle.script.proofs.Starts.{whole_start, decoded_odd, decoded_whole}
use Rattle.script.proofs.start.decode.Goals as goal

pub returns-then-wanted-words-clause-decoded : goal.returns-then-wanted-words-clause-decoded
returns-then-wanted-words-clause-decoded c = decoded_odd c.args.words.now (ne_eqb _ _ (λ e. c.if-wanted-words.true (c.wanted.ensures ∙ e)))

-- of words that make a start
pub invariant_of-whole : goal.invariant_of-whole
invariant_of-whole c =
    let whole = whole_start c.args.words.now (eq-eqb _ _ (sym c.wanted.ensures ∙ c.if-wanted-words.false)) in
    record { few = whole.few; small = whole.high }

pub returns-clause-decoded : goal.returns-clause-decoded
returns-clause-decoded c = decoded_whole c.args.words.now _ (eq-eqb _ _ (sym c.wanted.ensures ∙ c.if-wanted-words.false)) c.opening.ensures c.fill.ensures.fills
