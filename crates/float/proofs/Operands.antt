-- What is finite was made of finite numbers. Assumes nothing.
use mathlib.Core.Bool.{true, false}
use lib.Dec.{T}
use lib.Ieee.{Float, nan, inf, fin, add, mul}
use Rattle.float.specs.Numbers.{◌⊕◌, ◌⊗◌, finite}

pub add_finite : (x y : Float) → T (finite (x ⊕ y)) → T (finite x) × T (finite y)
unfolding finite add
add_finite nan y w = absurd w
add_finite (inf s) nan w = absurd w
add_finite (inf true) (inf true) w = absurd w
add_finite (inf true) (inf false) w = absurd w
add_finite (inf false) (inf true) w = absurd w
add_finite (inf false) (inf false) w = absurd w
add_finite (inf s) (fin t n d) w = absurd w
add_finite (fin s m e) nan w = absurd w
add_finite (fin s m e) (inf t) w = absurd w
add_finite (fin s m e) (fin t n d) w = (tt, tt)

pub square_finite : (x : Float) → T (finite (x ⊗ x)) → T (finite x)
unfolding finite mul
square_finite nan w = absurd w
square_finite (inf s) w = absurd w
square_finite (fin s m e) w = tt
