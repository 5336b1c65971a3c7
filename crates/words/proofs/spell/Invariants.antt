use Rattle.std.proofs.Common.{◌≡◌, ◌++◌, length, drop}
use Rattle.words.specs.Words.{hex_of}
use Rattle.words.proofs.spell.Given as goal

abbrev pub invariant-loop-i : goal.invariant-loop-i
invariant-loop-i l = hex_of l.i l.rest ++ drop l.i l.text ≡ hex_of (length l.initial.text) l.word
