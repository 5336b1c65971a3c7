-- "Steihaug." Definitions only.
use Rattle.std.specs.Prelude.{◌≡◌, Bool, false, ◌&&◌, ◌||◌, List, [], ◌∷◌, map, Option, None, Some, Result, Ok, Err, Float}
use Rattle.vectors.specs.declared.refusal.Refusal.{Refusal}
use Rattle.std.proofs.Math.Bool.{cond}
use Prim.Native.Nat.{ℕ, zero, suc}
use Rattle.std.specs.Float.Ieee.{lt, le, neg, is_nan}
use Rattle.float.specs.Numbers.{◌⊕◌, ◌⊖◌, ◌⊗◌, ◌⊘◌, square, finite}
use Rattle.float.specs.Constants.{nought, one, two, half}
use Rattle.root.specs.Root.{root}
use Rattle.vectors.specs.Slots.{slot}
use Rattle.vectors.specs.Vector.{dot, norm, times, weighted, plus, scale, zeros}
use Rattle.vectors.specs.Refusal.{Answer, refused, given, then}
use Rattle.kernels.specs.Kernel.{Kernel, Made, made, handed_out}
use Rattle.vectors.specs.declared.refusal.Refusal.TheVariants.{Root}
use Rattle.kernels.specs.declared.steihaug.Roots.{Roots}
use Rattle.kernels.specs.declared.steihaug.Valued.{Valued}
use Rattle.kernels.specs.declared.steihaug.Turn.{Turn}
use Rattle.kernels.specs.declared.steihaug.Turn.TheVariants.{Boundary, Inside, WentOn}
use Rattle.kernels.specs.declared.steihaug.Exit.{Exit}
use Rattle.kernels.specs.declared.steihaug.Exit.TheVariants as exit

-- ---- roots

-- "t = root(((−a)·b + b·D) + c²); −(t + c)/b, (t − c)/b, and, if either is NaN or infinite, (D − a)/(2c)"
unfoldable pub roots : (a b c D : Float) → List Float
unfolding root finite
roots a b c D =
    let t = root (neg a ⊗ b ⊕ b ⊗ D ⊕ square c) in
    let first = neg (t ⊕ c) ⊘ b in
    let second = (t ⊖ c) ⊘ b in
    first ∷ second ∷ cond (finite first && finite second) [] ((D ⊖ a) ⊘ (two ⊗ c) ∷ [])

-- "a = p·p, b = d·d, c = p·d, D = radius²"
unfoldable pub roots_at : Float → (p d : List Float) → List Float
unfolding roots dot
roots_at radius p d = roots (dot p p) (dot d d) (dot p d) (square radius)

-- the list that the code's roots stand for
abbrev pub with_third : Option Float → List Float
with_third None = []
with_third (Some third) = third ∷ []

abbrev pub listed : Roots → List Float
listed ts = ts.first ∷ ts.second ∷ with_third ts.third

-- p + d·tau
abbrev pub ahead : ℕ → (p d : List Float) → Float → List Float
ahead n p d tau = plus n p (scale n d tau)

-- "g·x + 0.5·(x·H·x)"
unfoldable pub model : ℕ → (g H x : List Float) → Float
unfolding dot weighted
model n g H x = dot g x ⊕ half ⊗ weighted n x H x

-- a root with its model "at x = p + d·tau"
unfoldable pub valued : ℕ → (g H p d : List Float) → Float → Valued
unfolding model plus scale
valued n g H p d tau = record { tau = tau; model = model n g H (ahead n p d tau) }

-- "By model: least .., earliest on a tie; refusal 7 if any is NaN"
abbrev pub lesser : (held next : Valued) → Valued
lesser held next = cond (lt next.model held.model) next held

abbrev pub least_from : Valued → List Valued → Valued
least_from held [] = held
least_from held (v ∷ vs) = least_from (lesser held v) vs

abbrev pub any_nan : List Valued → Bool
any_nan [] = false
any_nan (v ∷ vs) = is_nan v.model || any_nan vs

unfoldable pub by_model : List Valued → Answer Float
by_model [] = refused Root
by_model (v ∷ vs) = cond (any_nan (v ∷ vs)) (refused Root) (given (least_from v vs).tau)

-- "Forward: the largest ≥ 0, earliest on a tie; refusal 7 if none."
abbrev pub larger : Answer Float → Float → Answer Float
larger (refused r) t = cond (le nought t) (given t) (refused r)
larger (given held) t = cond (lt held t) (given t) (given held)

abbrev pub largest_from : Answer Float → List Float → Answer Float
largest_from held [] = held
largest_from held (t ∷ ts) = largest_from (larger held t) ts

unfoldable pub forward : List Float → Answer Float
forward ts = largest_from (refused Root) ts

-- how the code holds the largest so far
abbrev pub root_of : Option Float → Answer Float
root_of None = refused Root
root_of (Some t) = given t

-- ---- passes

-- p, r, d and rtr = r·r
pub record State : Type 0 where
  pub p : List Float
  pub r : List Float
  pub d : List Float
  pub rtr : Float

-- "p = 0, r = g, d = r·(−1), rtr = r·r"
unfoldable pub start : ℕ → List Float → State
unfolding zeros scale dot
start n g = record { p = zeros n; r = g; d = scale n g (neg one); rtr = dot g g }

-- a pass stops at a point, or without a usable root; or it goes on
pub data Pass : Type 0 where
  stops : Answer (List Float) → Pass
  goes_on : State → Pass

-- "The count returned is the passes begun": k of them, where a pass ended so
abbrev pub after : Pass → (k : ℕ) → (State → Answer Made) → Answer Made
after (stops point) k more = then (λ v. given (made k v)) point
after (goes_on st) k more = more st

-- p + d·tau for the root that was chosen
abbrev pub stops_at : ℕ → (p d : List Float) → Answer Float → Pass
stops_at n p d tau = stops (then (λ t. given (ahead n p d t)) tau)

-- "(a) d·H·d ≤ 0: p + d·tau by model"
unfoldable pub curved : ℕ → Float → (g H p d : List Float) → Pass
unfolding roots_at valued by_model plus scale
curved n radius g H p d = stops_at n p d (by_model (map (valued n g H p d) (roots_at radius p d)))

-- "(b) .. ‖q‖ ≥ radius: p + d·tau forward"
unfoldable pub crossing : ℕ → Float → (p d : List Float) → Pass
unfolding roots_at forward plus scale
crossing n radius p d = stops_at n p d (forward (roots_at radius p d))

-- "Else beta = (s·s)/rtr, d = s·(−1) + d·beta, p = q, r = s, rtr = s·s."
unfoldable pub onward : ℕ → State → (q s : List Float) → State
unfolding plus scale dot
onward n st q s =
    let ss = dot s s in
    let beta = ss ⊘ st.rtr in
    record { p = q; r = s; d = plus n (scale n s (neg one)) (scale n st.d beta); rtr = ss }

-- past (a): "q = p + d·alpha", "s = r + (H·d)·alpha", and "(c) .. ‖s‖ < epsilon·‖g‖: q", where `small` is epsilon·‖g‖
unfoldable pub straight : ℕ → (radius small : Float) → State → (Hd : List Float) (alpha : Float) → Pass
unfolding norm plus scale crossing onward
straight n radius small st Hd alpha =
    let q = ahead n st.p st.d alpha in
    let s = ahead n st.r Hd alpha in
    cond (le radius (norm q)) (crossing n radius st.p st.d)
    (cond (lt (norm s) small) (stops (given q)) (goes_on (onward n st q s)))

module _ (n : ℕ) (radius small : Float) (g H : List Float) where
  -- a pass, "with alpha = rtr/(d·H·d)"
  unfoldable pub pass : State → Pass
  unfolding times dot curved straight
  pass st =
      let Hd = times n H st.d in
      let dHd = dot st.d Hd in
      cond (le dHd nought) (curved n radius g H st.p st.d) (straight n radius small st Hd (st.rtr ⊘ dHd))

  -- k passes have begun, and `left` more may: "or limit reached: p"
  unfoldable pub run : (left k : ℕ) → State → Answer Made
  unfolding pass
  run zero k st = given (made k st.p)
  run (suc left) k st = after (pass st) (suc k) (run left (suc k))

-- "Before each pass: ‖g‖ < epsilon, or limit reached: p."
unfoldable pub steihaug : (epsilon : Float) (limit : ℕ) → Kernel
unfolding norm zeros start run handed_out
steihaug epsilon limit n radius g H =
    then handed_out (cond (lt (norm g) epsilon) (given (made 0 (zeros n))) (run n radius (epsilon ⊗ norm g) g H limit 0 (start n g)))

-- ---- how the scratch holds these: p, r, d in slots 0, 1, 2, and the point that was chosen in slot 6

abbrev pub state_in : (w : List Float) (n : ℕ) (rtr : Float) → State
state_in w n rtr = record { p = slot w n 0; r = slot w n 1; d = slot w n 2; rtr = rtr }

-- p and d are as they were
abbrev pub Keeps : ℕ → (w w' : List Float) → Type 0
Keeps n w w' = (slot w' n 0 ≡ slot w n 0) × (slot w' n 2 ≡ slot w n 2)

-- what a pass of the code stands for, with the scratch that it left
abbrev pub passed : Result Turn Refusal → ℕ → List Float → Pass
passed (Ok Boundary) n w = stops (given (slot w n 6))
passed (Ok Inside) n w = stops (given (slot w n 6))
passed (Ok (WentOn rtr)) n w = goes_on (state_in w n rtr)
passed (Err r) n w = stops (refused r)

-- and all passes
abbrev pub ended : Exit → ℕ → List Float → Made
ended (exit.Limit k) n w = made k (slot w n 0)
ended (exit.Boundary k) n w = made k (slot w n 6)
ended (exit.Inside k) n w = made k (slot w n 6)

abbrev pub ran : Result Exit Refusal → ℕ → List Float → Answer Made
ran (Ok end) n w = given (ended end n w)
ran (Err r) n w = refused r
