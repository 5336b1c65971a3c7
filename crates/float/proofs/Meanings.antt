-- Each constant of specs/Constants.antt is the f64 nearest to the fraction that its table names. Assumes nothing.
use mathlib.Core.Path.{◌≡◌, refl}
use mathlib.Core.List.{map}
use Rattle.float.specs.Constants.{table, meant, Meaning}

pub constants_mean : map (λ (m : Meaning). m.constant) table ≡ map meant table
unfolding table meant
constants_mean = refl
