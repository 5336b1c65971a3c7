-- `shortest::digits::between` meets its contract. Assumes nothing.
use Rattle.shortest.proofs.Turns.{unit_most, number_most, top_hundreds}
use Rattle.shortest.proofs.digits.between.Goals as goal

pub find-requires : goal.find-requires
find-requires c =
    rw c.of.ensures (top_hundreds _ _ (number_most c.args.mantissa c.args.power c.requires.0 c.requires.2) (unit_most c.args.power c.requires.2))
