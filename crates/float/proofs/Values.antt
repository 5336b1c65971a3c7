-- A number that an f64 holds: its parts, its size in units of 2 ^ -1074, the one way in which it is written, and that rounding leaves it alone. Assumes nothing.
use mathlib.Core.Path.{◌≡◌, refl, sym, ap, ◌∙◌, subst}
use Prim.Native.Nat.{ℕ, zero, suc, ◌+◌, ◌-◌, ◌*◌, ◌/◌, ◌%◌, ◌^◌, ◌≤◌, ◌<◌}
use native.Mathlib.Nat.{le_of_eq, lt_of_lt_of_le, lt_of_le_of_lt, lt_irrefl, lt_of_not-le, not-le_of_lt, mul_assoc, mul_left_comm, mul_right_comm, mul-one, zero-mul, mul-pos, mul-lt-mul_of_pos_right, lt_of_mul-lt-mul_right, eq_of_mul-eq-mul_right, pow-suc, pow-succ', zero-lt-suc, div-one, mul-div_cancel}
use native.Mathlib.Omega.{arith}
use mathlib.Core.Bool.{Bool, ◌&&◌}
use lib.IntN.{ℤ, pos, negsuc}
use lib.Dec.{T, eqb, ltb, leb, eqb→eq, ltb→lt, leb→le, lit<, lit≤}
use lib.Pow.{pow-add, pow_pos, pow-lt}
use lib.Ieee.{Float, fin, binary64, fits, up, down, round}
use lib.Ieee.Bits.{is_true}
use lib.Ieee.Fits.{and_l, and_r, up_pos, down_pos, round-fits}
use lib.Ieee.Exact.{HasValue, round_exact}
use Rattle.float.proofs.Scalars.{zero_exponent}

-- ---- what `fits` says of m * 2 ^ e
pub record Held (m : ℕ) (e : ℤ) : Type 0 where
  pub small : m < 2 ^ 53
  pub fine : down e ≤ 2 ^ 1074
  pub bounded : m * up e < 2 ^ 1024 * down e

module _ (m : ℕ) (e : ℤ) where
  abbrev odd_enough : Bool
  odd_enough = eqb (suc m % 2) 1

  abbrev small_enough : Bool
  small_enough = ltb (suc m) (2 ^ 53)

  abbrev fine_enough : Bool
  fine_enough = leb (down e) (2 ^ 1074)

  abbrev low_enough : Bool
  low_enough = ltb (suc m * up e) (2 ^ 1024 * down e)

  module _ (s : Bool) (t : T (fits binary64 (fin s (suc m) e))) where
    three : T (odd_enough && small_enough && fine_enough)
    unfolding fits
    three = and_l (odd_enough && small_enough && fine_enough) low_enough t

    pub is_odd : suc m % 2 ≡ 1
    is_odd = eqb→eq (suc m % 2) 1 (and_l odd_enough small_enough (and_l (odd_enough && small_enough) fine_enough three))

    held_some : Held (suc m) e
    unfolding fits
    held_some =
        record {
          small = ltb→lt (suc m) (2 ^ 53) (and_r odd_enough small_enough (and_l (odd_enough && small_enough) fine_enough three));
          fine = leb→le (down e) (2 ^ 1074) (and_r (odd_enough && small_enough) fine_enough three);
          bounded = ltb→lt (suc m * up e) (2 ^ 1024 * down e) (and_r (odd_enough && small_enough && fine_enough) low_enough t);
        }

pub held : (s : Bool) (m : ℕ) (e : ℤ) → T (fits binary64 (fin s m e)) → Held m e
held s zero e t = subst (Held 0) (zero_exponent s e (is_true _ t)) (record { small = lit< tt; fine = lit≤ tt; bounded = lit< tt })
held s (suc m) e t = held_some m e s t

-- ---- m * 2 ^ e as m * 2 ^ places units of 2 ^ -1074
pub record Units (m : ℕ) (e : ℤ) : Type 0 where
  pub places : ℕ
  pub whole : m * up e * 2 ^ 1074 / down e ≡ m * 2 ^ places
  pub exact : m * 2 ^ places * down e ≡ m * up e * 2 ^ 1074

pub in_units : (m : ℕ) (e : ℤ) → down e ≤ 2 ^ 1074 → Units m e
in_units m (pos j) h =
    let a : m * 2 ^ j * 2 ^ 1074 ≡ m * 2 ^ (j + 1074) = mul_assoc m (2 ^ j) (2 ^ 1074) ∙ ap (λ (z : ℕ). m * z) (sym (pow-add 2 j 1074)) in
    record { places = j + 1074; whole = div-one (m * 2 ^ j * 2 ^ 1074) ∙ a; exact = mul-one (m * 2 ^ (j + 1074)) ∙ sym a }
in_units m (negsuc j) h =
    let b : suc j ≤ 1074 = le_back (lt_of_not-le (λ (g : suc 1074 ≤ suc j). not-le_of_lt (pow-lt g) h)) in
    let c : m * 2 ^ (1074 - suc j) * 2 ^ suc j ≡ m * 1 * 2 ^ 1074 =
    mul_assoc m (2 ^ (1074 - suc j)) (2 ^ suc j) ∙ ap (λ (z : ℕ). m * z) (sym (pow-add 2 (1074 - suc j) (suc j)) ∙ ap (λ (z : ℕ). 2 ^ z) (back (suc j) b)) ∙ ap (λ (z : ℕ). z * 2 ^ 1074) (sym (mul-one m)) in
    record { places = 1074 - suc j; whole = ap (λ (z : ℕ). z / 2 ^ suc j) (sym c) ∙ mul-div_cancel (m * 2 ^ (1074 - suc j)) (pow_pos (suc j)); exact = c }
  where
    le_back : {a b : ℕ} → a < suc b → a ≤ b
    le_back h = omega arith

    back : (a : ℕ) → a ≤ 1074 → 1074 - a + a ≡ 1074
    back a h = omega arith

pub units_bounded : (m : ℕ) (e : ℤ) (h : Held m e) → m * 2 ^ (in_units m e h.fine).places < 2 ^ 2098
units_bounded m e h =
    let u = in_units m e h.fine in
    lt_of_mul-lt-mul_right (down e)
    (lt_of_le_of_lt (le_of_eq u.exact) (lt_of_lt_of_le (mul-lt-mul_of_pos_right h.bounded (pow_pos 1074)) (le_of_eq (mul_right_comm (2 ^ 1024) (down e) (2 ^ 1074)))))

-- ---- one way of writing: an odd number times a power of two
even_odd : (m t : ℕ) → m % 2 ≡ 1 → m ≡ 2 * t → ⊥
even_odd m t o h = omega arith

-- m is n * 2 ^ (b + 1)
shifted : (m n b : ℕ) → m % 2 ≡ 1 → m * 1 ≡ n * 2 ^ suc b → ⊥
shifted m n b o h = even_odd m (n * 2 ^ b) o (sym (mul-one m) ∙ h ∙ ap (λ (x : ℕ). n * x) (pow-succ' 2 b) ∙ mul_left_comm n 2 (2 ^ b))

pub odd_powers : (m n a b : ℕ) → m % 2 ≡ 1 → n % 2 ≡ 1 → m * 2 ^ a ≡ n * 2 ^ b → (m ≡ n) × (a ≡ b)
odd_powers m n zero zero o p h = (sym (mul-one m) ∙ h ∙ mul-one n, refl)
odd_powers m n zero (suc b) o p h = absurd (shifted m n b o h)
odd_powers m n (suc a) zero o p h = absurd (shifted n m a p (sym h))
odd_powers m n (suc a) (suc b) o p h =
    let r = odd_powers m n a b o p (eq_of_mul-eq-mul_right 2 (zero-lt-suc 1) (m * 2 ^ a) (n * 2 ^ b)
    (mul_assoc m (2 ^ a) 2 ∙ ap (λ (x : ℕ). m * x) (sym (pow-suc 2 a)) ∙ h ∙ ap (λ (x : ℕ). n * x) (pow-suc 2 b) ∙ sym (mul_assoc n (2 ^ b) 2))) in
    (r.0, ap suc r.1)

-- a whole number times 2 ^ a is no odd number times 2 ^ -(b + 1)
no_mix : (m n a b : ℕ) → m % 2 ≡ 1 → n % 2 ≡ 1 → m * 2 ^ a * 2 ^ suc b ≡ n * 1 * 1 → ⊥
no_mix m n a b o p h =
    no a b (odd_powers m n (a + suc b) 0 o p (ap (λ (z : ℕ). m * z) (pow-add 2 a (suc b)) ∙ sym (mul_assoc m (2 ^ a) (2 ^ suc b)) ∙ h ∙ mul-one (n * 1))).1
  where
    no : (a b : ℕ) → a + suc b ≡ 0 → ⊥
    no a b h = omega arith

same_power : (m n : ℕ) (e g : ℤ) → m % 2 ≡ 1 → n % 2 ≡ 1 → m * up e * down g ≡ n * up g * down e → (m ≡ n) × (e ≡ g)
same_power m n (pos a) (pos b) o p h =
    let r = odd_powers m n a b o p (sym (mul-one (m * 2 ^ a)) ∙ h ∙ mul-one (n * 2 ^ b)) in
    (r.0, ap pos r.1)
same_power m n (pos a) (negsuc b) o p h = absurd (no_mix m n a b o p h)
same_power m n (negsuc a) (pos b) o p h = absurd (no_mix n m b a p o (sym h))
same_power m n (negsuc a) (negsuc b) o p h =
    let r = odd_powers m n (suc b) (suc a) o p (ap (λ (z : ℕ). z * 2 ^ suc b) (sym (mul-one m)) ∙ h ∙ ap (λ (z : ℕ). z * 2 ^ suc a) (mul-one n)) in
    (r.0, ap negsuc (back (sym r.1)))
  where
    back : {a b : ℕ} → suc a ≡ suc b → a ≡ b
    back h = omega arith

-- zero is no other number
not_zero : (n : ℕ) (e g : ℤ) → zero * up e * down g ≡ suc n * up g * down e → ⊥
not_zero n e g h =
    lt_irrefl 0 (subst (λ (x : ℕ). 0 < x) (sym h ∙ ap (λ (z : ℕ). z * down g) (zero-mul (up e)) ∙ zero-mul (down g)) (mul-pos (mul-pos (zero-lt-suc n) (up_pos g)) (down_pos e)))

crossed : (m : ℕ) (e : ℤ) (n : ℕ) (g : ℤ) (a c : ℕ) → 0 < c → m * up e * c ≡ a * down e → n * up g * c ≡ a * down g → m * up e * down g ≡ n * up g * down e
crossed m e n g a c C v w =
    eq_of_mul-eq-mul_right c C (m * up e * down g) (n * up g * down e)
    (mul_right_comm (m * up e) (down g) c ∙ ap (λ (z : ℕ). z * down g) v ∙ mul_right_comm a (down e) (down g) ∙ ap (λ (z : ℕ). z * down e) (sym w) ∙ mul_right_comm (n * up g) c (down e))

-- two f64 with one sign and one value are the same
pub value_unique : (x y : Float) (s : Bool) (a c : ℕ) → 0 < c → T (fits binary64 x) → T (fits binary64 y) → HasValue x s a c → HasValue y s a c → x ≡ y
value_unique (fin t zero e) (fin u zero g) s a c C p q v w =
    λ i. fin ((v.0 ∙ sym w.0) i) zero ((sym (zero_exponent t e (is_true _ p)) ∙ zero_exponent u g (is_true _ q)) i)
value_unique (fin t zero e) (fin u (suc n) g) s a c C p q v w = absurd (not_zero n e g (crossed zero e (suc n) g a c C v.1 w.1))
value_unique (fin t (suc m) e) (fin u zero g) s a c C p q v w = absurd (not_zero m g e (sym (crossed (suc m) e zero g a c C v.1 w.1)))
value_unique (fin t (suc m) e) (fin u (suc n) g) s a c C p q v w =
    let r = same_power (suc m) (suc n) e g (is_odd m e t p) (is_odd n g u q) (crossed (suc m) e (suc n) g a c C v.1 w.1) in
    λ i. fin ((v.0 ∙ sym w.0) i) (r.0 i) (r.1 i)
value_unique lib.Ieee.nan y s a c C p q v w = elim v [ ]
value_unique (lib.Ieee.inf _) y s a c C p q v w = elim v [ ]
value_unique (fin t zero e) lib.Ieee.nan s a c C p q v w = elim w [ ]
value_unique (fin t zero e) (lib.Ieee.inf _) s a c C p q v w = elim w [ ]
value_unique (fin t (suc m) e) lib.Ieee.nan s a c C p q v w = elim w [ ]
value_unique (fin t (suc m) e) (lib.Ieee.inf _) s a c C p q v w = elim w [ ]

-- ---- rounding changes nothing at an f64's own value
pub round_own : (s : Bool) (m : ℕ) (e : ℤ) → T (fits binary64 (fin s m e)) → round binary64 s (m * up e) (down e) ≡ fin s m e
round_own s m e t =
    let h = held s m e t in
    let u = in_units m e h.fine in
    value_unique (round binary64 s (m * up e) (down e)) (fin s m e) s (m * up e) (down e) (down_pos e) (round-fits binary64 s (m * up e) (down e)) t
    (round_exact binary64 s (m * up e) (down e) m u.places (down_pos e) h.small (units_bounded m e h) (sym u.exact)) (refl, refl)
