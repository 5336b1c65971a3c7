-- "Dogleg." Definitions only.
use Rattle.std.specs.Prelude.{◌≡◌, cond, ◌&&◌, List, [], ◌∷◌, ◌⊎◌, ℕ, T, Float}
use Rattle.std.specs.Float.Ieee.{lt, le, neg}
use Rattle.float.specs.Numbers.{◌⊕◌, ◌⊖◌, ◌⊗◌, ◌⊘◌, square}
use Rattle.float.specs.Constants.{nought, one, two}
use Rattle.root.specs.Root.{root}
use Rattle.vectors.specs.Vector.{dot, norm, weighted, plus, minus, scale}
use Rattle.vectors.specs.Slots.{slot}
use Rattle.vectors.specs.Refusal.{Answer, given, then}
use Rattle.kernels.specs.Inverse.{eliminated, inverse_times}
use Rattle.kernels.specs.Kernel.{Kernel, made, handed_out}
use Rattle.kernels.specs.declared.dogleg.Measures.{Measures}

-- "Candidates in order: −((t + c) − k)/k; ((t − c) + k)/k; ((2c + D) − u)/(2c)", with "t = root((c² + D·k) − k·u)"
unfoldable pub candidates : (c k u D : Float) → List Float
unfolding root
candidates c k u D =
    let t = root (square c ⊕ D ⊗ k ⊖ k ⊗ u) in
    (neg (t ⊕ c ⊖ k) ⊘ k) ∷ ((t ⊖ c ⊕ k) ⊘ k) ∷ ((two ⊗ c ⊕ D ⊖ u) ⊘ (two ⊗ c)) ∷ []

-- "Keep those in [0, 2]. .. each kept one that is ≥ the one held replaces it."
abbrev pub keep : Float → Float → Float
keep held t = cond (le nought t && le t two && le held t) t held

abbrev pub kept_from : Float → List Float → Float
kept_from held [] = held
kept_from held (t ∷ ts) = kept_from (keep held t) ts

-- "Start from 0"
abbrev pub tau : (c k u D : Float) → Float
tau c k u D = kept_from nought (candidates c k u D)

-- "tau < 1: pu·tau; else pu + v·(tau − 1)"
unfoldable pub bent : ℕ → Float → (pu v : List Float) → List Float
unfolding plus scale
bent n tau pu v = cond (lt tau one) (scale n pu tau) (plus n pu (scale n v (tau ⊖ one)))

-- "The Rust's third branch, an error, can't be reached": its first asks for 0 ≤ tau < 1, its second for 1 ≤ tau ≤ 2. Proved of every tau: `no_third`.
abbrev pub Branches : Float → Type 0
Branches tau = (T (le nought tau) × T (lt tau one)) ⊎ (T (le one tau) × T (le tau two))

-- "c = pu·v, k = v·v, u = pu·pu, D = radius²", for a formula of these
unfoldable pub measured : Float → (pu v : List Float) → ((c k u D : Float) → Float) → Float
unfolding dot
measured radius pu v f = f (dot pu v) (dot v v) (dot pu pu) (square radius)

-- outside: "v = pb − pu"
unfoldable pub outside : ℕ → Float → (pu v : List Float) → List Float
unfolding measured candidates bent
outside n radius pu v = bent n (measured radius pu v tau) pu v

-- "pu = g·((−(g·g))/(g·H·g))", where the curvature is g·H·g
unfoldable pub towards : ℕ → (g : List Float) (curvature : Float) → List Float
unfolding dot scale
towards n g curvature = scale n g (neg (dot g g) ⊘ curvature)

unfoldable pub unconstrained : ℕ → (g H : List Float) → List Float
unfolding weighted towards
unconstrained n g H = towards n g (weighted n g H g)

-- "if ‖pb‖ ≤ radius it is the step"
unfoldable pub dogleg_step : ℕ → Float → (pb pu : List Float) → List Float
unfolding norm minus outside
dogleg_step n radius pb pu = cond (le (norm pb) radius) pb (outside n radius pu (minus n pb pu))

-- "pb = (H⁻¹·g)·(−1)", or the refusal of the inverse
unfoldable pub newton : ℕ → (g H : List Float) → Answer (List Float)
unfolding eliminated inverse_times scale
newton n g H = then (λ R. given (scale n (inverse_times n R g) (neg one))) (eliminated n H)

-- a kernel whose step is made of the radius, pb and pu
unfoldable pub between : (ℕ → Float → (pb pu : List Float) → List Float) → Kernel
unfolding newton unconstrained handed_out
between step n radius g H = then (λ pb. handed_out (made 0 (step n radius pb (unconstrained n g H)))) (newton n g H)

unfoldable pub dogleg : Kernel
unfolding between dogleg_step
dogleg = between dogleg_step

-- ---- how the code holds these: pb, pu and v in slots 0, 1 and 2 of the scratch

-- v is in its place, c, k and u are measured, and pu is as it was
pub record Measures_in (n : ℕ) (w : List Float) (m : Measures) (w' : List Float) : Type 0 where
  pub pu_stays : slot w' n 1 ≡ slot w n 1
  pub across : slot w' n 2 ≡ minus n (slot w n 0) (slot w n 1)
  pub measure : (radius : Float) (f : (c k u D : Float) → Float) → f m.c m.k m.u (square radius) ≡ measured radius (slot w n 1) (minus n (slot w n 0) (slot w n 1)) f
