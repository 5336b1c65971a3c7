-- `Reader::next_number` meets its contract. Assumes nothing.
use Rattle.stream.proofs.Found.{number_is}
use Rattle.stream.proofs.input.Reader.next_number.Goals as goal

pub returns : goal.returns
returns c = record { word = c.next_word.result; next = c.next_word.ensures; number = number_is _ _ _ c.ok.ensures.value c.map.ensures.cases }
