-- `fit::size` meets its contract: words that are as many as a start wants are a start's. Assumes nothing.
use Rattle.std.proofs.Common.{◌≡◌, ◌≤◌, true, sym, ◌∙◌, eq-eqb}
use Rattle.vectors.proofs.Sizes.{square_small}
use Rattle.script.specs.Start.{is_whole}
use Rattle.script.proofs.Starts.{whole_start}
use Rattle.fit.proofs.size.Goals as goal

pub returns : goal.returns
returns c =
    let whole : is_whole c.args.words.now ≡ true = eq-eqb _ _ (sym c.wanted.ensures ∙ c.if-wanted-words.false) in
    let most : c.size.result ≤ 64 = rw c.size.ensures (whole_start _ whole).high in
    (most, square_small _ most)
