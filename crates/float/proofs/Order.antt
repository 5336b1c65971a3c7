-- `le` and `lt` order the floats that are no NaN: they are transitive, and where one fails the other holds, at every value,
-- infinities and zeros of either sign among them. Assumes nothing.
-- A value that is no NaN is a signed fraction, an infinity 1 / 0. `le` is the order of the fractions; `lt` is where `le` fails the other way round.
use mathlib.Core.Path.{◌≡◌, refl, sym, ap, ◌∙◌, subst}
use mathlib.Core.Logic.{◌⊎◌, inl, inr}
use Prim.Native.Nat.{ℕ, ◌+◌, ◌*◌, ◌≤◌, ◌<◌, zero-le}
use native.Mathlib.Nat.{le_refl, le_trans, le_of_eq, le_of_lt, lt_of_lt_of_le, lt_irrefl, not-le_of_lt, eq-zero-or-pos, eq-or-lt_of_le, add_comm, mul_right_comm, mul-zero, zero-mul, one-mul, mul-pos, mul-le-mul_right, le_of_mul-le-mul_right, zero-lt-suc}
use native.Mathlib.Omega.{arith}
use mathlib.Core.Bool.{Bool, true, false, not, ◌&&◌, ◌||◌}
use lib.Dec.{T, eqb, ltb, ltb→lt, lt→ltb, eqb→eq, T_not, not_T}
use lib.Ieee.{Float, nan, inf, fin, up, down, level, lt, le, eq, is_nan}
use lib.Ieee.Bits.{is_true, is_false}
use lib.Ieee.Fits.{down_pos, and_l, and_r, and_i, eq→eqb}
use borrow.Author.Tests.{lt-ltb, le-ltb, eq-eqb}
use Rattle.float.proofs.Nan.{real}
use Rattle.float.proofs.Three.{Three, below, equal, above, three}

-- ---- small things
right : (a b : ℕ) → 0 < b → 0 < a + b
right a b h = omega arith

rest : (a b : ℕ) → 0 < a + b → b ≡ 0 → 0 < a
rest a b h e = omega arith

or_l : (a b : Bool) → T a → T (a || b)
or_l true b t = tt
or_l false b t = absurd t

or_r : (a b : Bool) → T b → T (a || b)
or_r true b t = tt
or_r false b t = t

or_split : (a b : Bool) → T (a || b) → T a ⊎ T b
or_split true b t = inl tt
or_split false b t = inr t

-- ---- a value as a signed fraction
abbrev pub sign : Float → Bool
sign nan = false
sign (inf s) = s
sign (fin s m e) = s

abbrev pub top : Float → ℕ
top nan = 0
top (inf s) = 1
top (fin s m e) = m * up e

abbrev pub bottom : Float → ℕ
bottom nan = 0
bottom (inf s) = 0
bottom (fin s m e) = down e

-- ±a / c is at most ±b / d
abbrev pub AtMost : Bool → ℕ → ℕ → Bool → ℕ → ℕ → Type 0
AtMost false a c false b d = a * d ≤ b * c
AtMost false a c true b d = (a ≡ 0) × (b ≡ 0)
AtMost true a c false b d = Unit {0}
AtMost true a c true b d = b * c ≤ a * d

-- the fraction is not 0 / 0
whole : (x : Float) → T (real x) → 0 < top x + bottom x
unfolding is_nan
whole nan t = absurd t
whole (inf s) t = zero-lt-suc 0
whole (fin s m e) t = right (m * up e) (down e) (down_pos e)

-- ---- `le` says so

-- ±a ≤ ±b by the two tests that `le` makes of like signs: p is the one of ltb a b and ltb b a that says "below"
like_le : (p : Bool) (a b : ℕ) {x y : ℕ} → (T p → x < y) → (a ≡ b → x ≡ y) → T (p || (eqb a b && true)) → x ≤ y
like_le p a b f g t = elim (or_split p (eqb a b && true) t) [ inl u ↦ le_of_lt (f u) | inr u ↦ le_of_eq (g (eqb→eq a b (and_l (eqb a b) true u))) ]

le_like : (p : Bool) (a b : ℕ) {x y : ℕ} → (x < y → T p) → (x ≡ y → a ≡ b) → x ≤ y → T (p || (eqb a b && true))
le_like p a b f g h = elim (eq-or-lt_of_le h) [ inl e ↦ or_r p (eqb a b && true) (and_i (eqb a b) true (eq→eqb (g e)) tt) | inr l ↦ or_l p (eqb a b && true) (f l) ]

no_size : (x d : ℕ) → 0 < d → x * d ≡ 0 → x ≡ 0
no_size x d D h = elim (eq-zero-or-pos x) [ inl z ↦ z | inr p ↦ absurd (lt_irrefl 0 (lt_of_lt_of_le (mul-pos p D) (le_of_eq h))) ]

minus_plus : (a b : ℕ) → T (ltb 0 (a + b) || (eqb a b && (false || eqb a 0)))
minus_plus a b = elim (eq-zero-or-pos (a + b)) [
  | inl z ↦ or_r (ltb 0 (a + b)) (eqb a b && (false || eqb a 0)) (and_i (eqb a b) (eqb a 0) (eq→eqb (each a b z)) (eq→eqb (first a b z)))
  | inr p ↦ or_l (ltb 0 (a + b)) (eqb a b && (false || eqb a 0)) (lt→ltb 0 (a + b) p)
]
  where
    each : (a b : ℕ) → a + b ≡ 0 → a ≡ b
    each a b h = omega arith

    first : (a b : ℕ) → a + b ≡ 0 → a ≡ 0
    first a b h = omega arith

-- x / 0 is no more than y / c, and the other way round
top_le : (x c : ℕ) → x * 0 ≤ 1 * c
top_le x c = le_trans (le_of_eq (mul-zero x)) zero-le

not_top : (x c : ℕ) → 0 < c → 1 * c ≤ x * 0 → ⊥
not_top x c C h = lt_irrefl 0 (lt_of_lt_of_le C (le_trans (le_of_eq (sym (one-mul c))) (le_trans h (le_of_eq (mul-zero x)))))

not_one : ◌≡◌ {A = ℕ} 1 0 → ⊥
not_one e = omega arith

pub le→AtMost : (x y : Float) → T (le x y) → AtMost (sign x) (top x) (bottom x) (sign y) (top y) (bottom y)
unfolding le
le→AtMost nan y t = absurd t
le→AtMost (inf s) nan t = absurd t
le→AtMost (inf true) (inf true) t = le_refl 0
le→AtMost (inf true) (inf false) t = tt
le→AtMost (inf false) (inf true) t = absurd t
le→AtMost (inf false) (inf false) t = le_refl 0
le→AtMost (inf true) (fin true n d) t = top_le (n * up d) (down d)
le→AtMost (inf true) (fin false n d) t = tt
le→AtMost (inf false) (fin u n d) t = absurd t
le→AtMost (fin s m e) nan t = absurd t
le→AtMost (fin true m e) (inf true) t = absurd t
le→AtMost (fin true m e) (inf false) t = tt
le→AtMost (fin false m e) (inf true) t = absurd t
le→AtMost (fin false m e) (inf false) t = top_le (m * up e) (down e)
le→AtMost (fin true m e) (fin true n d) t =
    like_le (ltb (n * up d * down e) (m * up e * down d)) (m * up e * down d) (n * up d * down e) (ltb→lt _ _) (λ h. sym h) t
le→AtMost (fin true m e) (fin false n d) t = tt
le→AtMost (fin false m e) (fin true n d) t =
    let a : m * up e * down d ≡ 0 = eqb→eq (m * up e * down d) 0 (and_r (eqb (m * up e * down d) (n * up d * down e)) (eqb (m * up e * down d) 0) t) in
    let b : m * up e * down d ≡ n * up d * down e = eqb→eq (m * up e * down d) (n * up d * down e) (and_l (eqb (m * up e * down d) (n * up d * down e)) (eqb (m * up e * down d) 0) t) in
    (no_size (m * up e) (down d) (down_pos d) a, no_size (n * up d) (down e) (down_pos e) (sym b ∙ a))
le→AtMost (fin false m e) (fin false n d) t =
    like_le (ltb (m * up e * down d) (n * up d * down e)) (m * up e * down d) (n * up d * down e) (ltb→lt _ _) (λ h. h) t

pub AtMost→le : (x y : Float) → T (real x) → T (real y) → AtMost (sign x) (top x) (bottom x) (sign y) (top y) (bottom y) → T (le x y)
unfolding le is_nan
AtMost→le nan y p q h = absurd p
AtMost→le (inf s) nan p q h = absurd q
AtMost→le (inf true) (inf true) p q h = tt
AtMost→le (inf true) (inf false) p q h = tt
AtMost→le (inf false) (inf true) p q h = absurd (not_one h.0)
AtMost→le (inf false) (inf false) p q h = tt
AtMost→le (inf true) (fin u n d) p q h = tt
AtMost→le (inf false) (fin true n d) p q h = absurd (not_one h.0)
AtMost→le (inf false) (fin false n d) p q h = absurd (not_top (n * up d) (down d) (down_pos d) h)
AtMost→le (fin s m e) nan p q h = absurd q
AtMost→le (fin true m e) (inf true) p q h = absurd (not_top (m * up e) (down e) (down_pos e) h)
AtMost→le (fin true m e) (inf false) p q h = tt
AtMost→le (fin false m e) (inf true) p q h = absurd (not_one h.1)
AtMost→le (fin false m e) (inf false) p q h = tt
AtMost→le (fin true m e) (fin true n d) p q h =
    le_like (ltb (n * up d * down e) (m * up e * down d)) (m * up e * down d) (n * up d * down e) (lt→ltb _ _) (λ k. sym k) h
AtMost→le (fin true m e) (fin false n d) p q h = minus_plus (m * up e * down d) (n * up d * down e)
AtMost→le (fin false m e) (fin true n d) p q h =
    let a : m * up e * down d ≡ 0 = ap (λ (z : ℕ). z * down d) h.0 ∙ zero-mul (down d) in
    let b : n * up d * down e ≡ 0 = ap (λ (z : ℕ). z * down e) h.1 ∙ zero-mul (down e) in
    and_i (eqb (m * up e * down d) (n * up d * down e)) (eqb (m * up e * down d) 0) (eq→eqb (a ∙ sym b)) (eq→eqb a)
AtMost→le (fin false m e) (fin false n d) p q h =
    le_like (ltb (m * up e * down d) (n * up d * down e)) (m * up e * down d) (n * up d * down e) (lt→ltb _ _) (λ k. k) h

-- ---- the fractions' order is transitive
vanish : (x q : ℕ) → 0 < x → x * q ≤ 0 → q ≡ 0
vanish x q X h = elim (eq-zero-or-pos q) [ inl z ↦ z | inr p ↦ absurd (not-le_of_lt (mul-pos X p) h) ]

-- x / p ≤ y / q ≤ z / r, where a denominator may be 0
through : (x p y q z r : ℕ) → 0 < y + q → x * q ≤ y * p → y * r ≤ z * q → x * r ≤ z * p
through x p y q z r Y h k = elim (eq-zero-or-pos q) [
  | inl e ↦
      let r0 : r ≡ 0 = vanish y r (rest y q Y e) (le_trans k (le_of_eq (ap (λ (n : ℕ). z * n) e ∙ mul-zero z))) in
      le_trans (le_of_eq (ap (λ (n : ℕ). x * n) r0 ∙ mul-zero x)) zero-le
  | inr Q ↦
      le_of_mul-le-mul_right
      (le_trans (le_of_eq (mul_right_comm x r q)) (le_trans (mul-le-mul_right r h) (le_trans (le_of_eq (mul_right_comm y p r)) (le_trans (mul-le-mul_right p k) (le_of_eq (mul_right_comm z q p))))))
      Q
]

none_le : (b c w : ℕ) → b ≡ 0 → b * c ≤ w
none_le b c w e = le_trans (le_of_eq (ap (λ (z : ℕ). z * c) e ∙ zero-mul c)) zero-le

-- a / c is at most b / d, which is 0
flat : (a c b d : ℕ) → 0 < b + d → b ≡ 0 → a * d ≤ b * c → a ≡ 0
flat a c b d B e h = no_size a d (rest d b (subst (λ (z : ℕ). 0 < z) (add_comm b d) B) e) (none (le_trans h (none_le b c 0 e)))
  where
    none : {n : ℕ} → n ≤ 0 → n ≡ 0
    none h = omega arith

fractions_trans : (s t u : Bool) (x p y q z r : ℕ) → 0 < y + q → AtMost s x p t y q → AtMost t y q u z r → AtMost s x p u z r
fractions_trans false false false x p y q z r Y h k = through x p y q z r Y h k
fractions_trans false false true x p y q z r Y h k = (flat x p y q Y k.0 h, k.1)
fractions_trans false true false x p y q z r Y h k = none_le x r (z * p) h.0
fractions_trans false true true x p y q z r Y h k = (h.0, flat z r y q Y h.1 k)
fractions_trans true false false x p y q z r Y h k = tt
fractions_trans true false true x p y q z r Y h k = none_le z p (x * r) k.1
fractions_trans true true false x p y q z r Y h k = tt
fractions_trans true true true x p y q z r Y h k = through z r y q x p Y k h

-- ---- what is compared is no NaN
pub le_real : (x y : Float) → T (le x y) → T (real x) × T (real y)
unfolding le is_nan
le_real nan y t = absurd t
le_real (inf s) nan t = absurd t
le_real (inf s) (inf u) t = (tt, tt)
le_real (inf s) (fin u n d) t = (tt, tt)
le_real (fin s m e) nan t = absurd t
le_real (fin s m e) (inf u) t = (tt, tt)
le_real (fin s m e) (fin u n d) t = (tt, tt)

pub lt→le : (x y : Float) → T (lt x y) → T (le x y)
unfolding le
lt→le x y h = or_l (lt x y) (eq x y) h

pub lt_real : (x y : Float) → T (lt x y) → T (real x) × T (real y)
lt_real x y h = le_real x y (lt→le x y h)

-- ---- `lt` is where `le` fails the other way round
signed_dual : (s t : Bool) (a b : ℕ) → lib.Ieee.below s a t b ≡ not (lib.Ieee.below t b s a || level t b s a)
signed_dual false false a b = go (ltb a b) (ltb b a) (eqb b a) (three a b)
  where
    go : (x y z : Bool) → Three a b x y z → x ≡ not (y || (z && true))
    go true false false (below h) = refl
    go false false true (equal h) = refl
    go false true false (above h) = refl
    go false false false x4 = elim x4 [ ]
    go false true true x5 = elim x5 [ ]
    go true false true x5 = elim x5 [ ]
    go true true z x5 = elim x5 [ ]
signed_dual false true a b = rw (is_true (ltb 0 (b + a) || (eqb b a && (false || eqb b 0))) (minus_plus b a))
signed_dual true false a b = elim (eq-zero-or-pos (a + b)) [
  | inl z ↦ rw (le-ltb 0 (a + b) (le_of_eq z), eq-eqb b a (omega arith), eq-eqb b 0 (omega arith))
  | inr p ↦ rw (lt-ltb 0 (a + b) p) (sym (ap not (is_false (eqb b a && eqb b 0) (not_T (eqb b a && eqb b 0) (λ t. no p (eqb→eq b a (and_l (eqb b a) (eqb b 0) t)) (eqb→eq b 0 (and_r (eqb b a) (eqb b 0) t)))))))
]
  where
    no : 0 < a + b → b ≡ a → b ≡ 0 → ⊥
    no p e z = omega arith
signed_dual true true a b = go (ltb a b) (ltb b a) (eqb b a) (three a b)
  where
    go : (x y z : Bool) → Three a b x y z → y ≡ not (x || (z && true))
    go true false false (below h) = refl
    go false false true (equal h) = refl
    go false true false (above h) = refl
    go false false false x4 = elim x4 [ ]
    go false true true x5 = elim x5 [ ]
    go true false true x5 = elim x5 [ ]
    go true true z x5 = elim x5 [ ]

pub lt_is : (x y : Float) → T (real x) → T (real y) → lt x y ≡ not (le y x)
unfolding lt le is_nan
lt_is nan y p q = absurd p
lt_is (inf s) nan p q = absurd q
lt_is (inf true) (inf true) p q = refl
lt_is (inf true) (inf false) p q = refl
lt_is (inf false) (inf true) p q = refl
lt_is (inf false) (inf false) p q = refl
lt_is (inf true) (fin t n d) p q = refl
lt_is (inf false) (fin t n d) p q = refl
lt_is (fin s m e) nan p q = absurd q
lt_is (fin s m e) (inf true) p q = refl
lt_is (fin s m e) (inf false) p q = refl
lt_is (fin s m e) (fin t n d) p q = signed_dual s t (m * up e * down d) (n * up d * down e)

pub lt_not_le : (x y : Float) → T (lt x y) → T (le y x) → ⊥
lt_not_le x y h k = let r = lt_real x y h in T_not (le y x) (subst T (lt_is x y r.0 r.1) h) k

pub lt_of_not_le : (x y : Float) → T (real x) → T (real y) → (T (le y x) → ⊥) → T (lt x y)
lt_of_not_le x y p q n = subst T (sym (lt_is x y p q)) (not_T (le y x) n)

pub le_of_not_lt : (x y : Float) → T (real x) → T (real y) → (T (lt x y) → ⊥) → T (le y x)
le_of_not_lt x y p q n = go (le y x) (lt_is x y p q)
  where
    go : (b : Bool) → lt x y ≡ not b → T b
    go true e = tt
    go false e = absurd (n (subst T (sym e) tt))

pub le_self : (x : Float) → T (real x) → T (le x x)
le_self x p = AtMost→le x x p p (self (sign x) (top x) (bottom x))
  where
    self : (s : Bool) (a c : ℕ) → AtMost s a c s a c
    self true a c = le_refl (a * c)
    self false a c = le_refl (a * c)

-- and nothing is below itself
pub lt_self : (x : Float) → lt x x ≡ false
lt_self x = pick (lt x x) refl where
  pick : (b : Bool) → lt x x ≡ b → b ≡ false
  pick false e = refl
  pick true e =
      let t : T (lt x x) = subst T (sym e) tt in
      absurd (lt_not_le x x t (le_self x (lt_real x x t).0))

-- ---- transitive
pub le_le_trans : (x y z : Float) → T (le x y) → T (le y z) → T (le x z)
le_le_trans x y z h k =
    let a = le_real x y h in
    let b = le_real y z k in
    AtMost→le x z a.0 b.1 (fractions_trans (sign x) (sign y) (sign z) (top x) (bottom x) (top y) (bottom y) (top z) (bottom z) (whole y a.1) (le→AtMost x y h) (le→AtMost y z k))

pub le_lt_trans : (x y z : Float) → T (le x y) → T (lt y z) → T (lt x z)
le_lt_trans x y z h k = lt_of_not_le x z (le_real x y h).0 (lt_real y z k).1 (λ g. lt_not_le y z k (le_le_trans z x y g h))
