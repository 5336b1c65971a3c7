use lib.Ieee.{neg}
use Rattle.float.specs.Numbers.{◌⊕◌, ◌⊗◌}
use Rattle.float.specs.Constants.{one}
use Rattle.kernels.proofs.steihaug.straight.Given as goal

abbrev pub ghost-zip : goal.ghost-zip
ghost-zip a = λ p d. p ⊕ d ⊗ a.f.0.now

abbrev pub ghost-zip-2 : goal.ghost-zip-2
ghost-zip-2 a = λ r h. r ⊕ h ⊗ a.f.0.now

abbrev pub ghost-zip-3 : goal.ghost-zip-3
ghost-zip-3 a = λ s d. s ⊗ neg one ⊕ d ⊗ a.f.0.now
