-- "The Rust's third branch, an error, can't be reached": of its three, the Dogleg's tau always takes one of the first two. Assumes nothing.
use mathlib.Core.Logic.{inl, inr}
use mathlib.Core.Bool.{Bool, true, false, ◌&&◌, cond}
use mathlib.Core.List.{List, [], ◌∷◌}
use lib.Dec.{T}
use lib.Ieee.{Float, of_bits, lt, le}
use lib.Ieee.Fits.{and_l, and_r}
use Rattle.float.specs.Constants.{nought, one, two}
use Rattle.float.proofs.Order.{le_real, le_of_not_lt}
use Rattle.kernels.specs.Dogleg.{candidates, keep, kept_from, Branches}

-- 0 ≤ t ≤ 2
abbrev Kept : Float → Type 0
Kept t = T (le nought t && le t two)

keep_one : (held t : Float) (b : Bool) → (T b → Kept t) → Kept held → Kept (cond b t held)
keep_one held t true p q = p tt
keep_one held t false p q = q

kept_all : (ts : List Float) (held : Float) → Kept held → Kept (kept_from held ts)
kept_all [] held q = q
kept_all (t ∷ ts) held q =
    kept_all ts (keep held t) (keep_one held t (le nought t && le t two && le held t) (λ w. and_l (le nought t && le t two) (le held t) w) q)

start_kept : Kept nought
unfolding of_bits le
start_kept = tt

two_kept : T (le one two)
unfolding of_bits le
two_kept = tt

branches : (tau : Float) (b : Bool) → (T b → T (lt tau one)) → ((T b → ⊥) → T (le one tau)) → Kept tau → Branches tau
branches tau true p q k = inl (and_l (le nought tau) (le tau two) k, p tt)
branches tau false p q k = inr (q (λ x. absurd x), and_r (le nought tau) (le tau two) k)

pub no_third : (c k u D : Float) → Branches (kept_from nought (candidates c k u D))
no_third c k u D =
    let tau = kept_from nought (candidates c k u D) in
    let w : Kept tau = kept_all (candidates c k u D) nought start_kept in
    branches tau (lt tau one) (λ x. x) (λ n. le_of_not_lt tau one (le_real nought tau (and_l (le nought tau) (le tau two) w)).1 (le_real one two two_kept).0 n) w
