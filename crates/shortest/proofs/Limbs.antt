-- Arithmetic by limbs, a limb a step. What is left to do decides: no step speaks of a power of 2^32. Assumes nothing.
use mathlib.Core.Path.{◌≡◌, refl, sym, ap, ◌∙◌}
use mathlib.Core.Bool.{Bool, true, false}
use mathlib.Core.List.{List, [], ◌∷◌}
use Prim.Native.Nat.{ℕ, zero, suc, ◌+◌, ◌-◌, ◌*◌, ◌/◌, ◌%◌, ◌^◌, ◌<◌, ◌≤◌}
use native.Mathlib.Nat.{add_comm, add-zero, mul-le-mul, mul-le-mul_left, mul-add, mul_left_comm, pow-succ', mul_assoc}
use native.Mathlib.Omega.{arith}
use borrow.Author.Tests.{leb-true, leb-false, le-leb}
use lib.Dec.{leb}
use lib.ListN.{length, drop, get_or, set}
use lib.Seq.{drop-cons, drop-set-lt}
use Rattle.shortest.specs.Whole.{value, cap}

-- ---- what is left of a number

pub value_from : (l : List ℕ) (i : ℕ) → i < length l → value (drop i l) ≡ get_or l i 0 + 2 ^ 32 * value (drop (suc i) l)
unfolding value
value_from l i h = ap value (drop-cons l i 0 h)

pub value_end : (l : List ℕ) (i : ℕ) → length l ≤ i → value (drop i l) ≡ 0
unfolding value
value_end [] zero h = refl
value_end [] (suc i) h = refl
value_end (x ∷ xs) zero h = let no : ⊥ = omega arith in absurd no
value_end (x ∷ xs) (suc i) h = value_end xs i (omega arith)

-- ---- a number of which the i lowest limbs are written

-- the number whose i lowest limbs are those of l, and whose rest is v
unfoldable pub over : List ℕ → ℕ → ℕ → ℕ
over l zero v = v
over [] (suc i) v = 0
over (x ∷ xs) (suc i) v = x + 2 ^ 32 * over xs i v

pub over_start : (l : List ℕ) (v : ℕ) → over l 0 v ≡ v
unfolding over
over_start l v = refl

-- one limb more is written: x, before the rest v
pub over_put : (l : List ℕ) (i x v : ℕ) → i < length l → over l i (x + 2 ^ 32 * v) ≡ over (set l i x) (suc i) v
unfolding over
over_put [] i x v h = let no : ⊥ = omega arith in absurd no
over_put (y ∷ ys) zero x v h = refl
over_put (y ∷ ys) (suc i) x v h = rw (over_put ys i x v (omega arith))

-- all limbs are written
pub over_end : (l : List ℕ) → over l (length l) 0 ≡ value l
unfolding over value
over_end [] = refl
over_end (x ∷ xs) = rw (over_end xs)

pub over_top : (l : List ℕ) (v : ℕ) → (2 ^ 32) ^ length l * v ≤ over l (length l) v
unfolding over
over_top [] v = omega arith
over_top (x ∷ xs) v =
    let e : (2 ^ 32) ^ suc (length xs) * v ≡ 2 ^ 32 * ((2 ^ 32) ^ length xs * v) = rw (pow-succ' (2 ^ 32) (length xs), mul_assoc) in
    let h = over_top xs v in
    omega (arith, e)

-- ---- a limb of a product

pub product_step : (k a v c : ℕ) → k * (a + 2 ^ 32 * v) + c ≡ (k * a + c) % 2 ^ 32 + 2 ^ 32 * (k * v + (k * a + c) / 2 ^ 32)
product_step k a v c =
    let e : k * (a + 2 ^ 32 * v) ≡ k * a + 2 ^ 32 * (k * v) = mul-add k a (2 ^ 32 * v) ∙ rw (mul_left_comm k (2 ^ 32) v) in
    omega (arith, e)

-- ---- a limb of a comparison

-- two tests that follow from each other are the same
pub same : (a b c d : ℕ) → (a ≤ b → c ≤ d) → (c ≤ d → a ≤ b) → {t u : Bool} → leb a b ≡ t → leb c d ≡ u → leb a b ≡ leb c d
same a b c d f g {t = true} p q = p ∙ sym (le-leb c d (f (leb-true a b p)))
same a b c d f g {t = false} {u = true} p q =
    let no = leb-false a b p in
    let yes = g (leb-true c d q) in
    let bad : ⊥ = omega arith in
    absurd bad
same a b c d f g {t = false} {u = false} p q = p ∙ sym q

pub compare_step : (p q a v b w c z o k x y : ℕ) → a < 2 ^ 32 → o ≤ 1 → x ≡ p * b + q * c + k → y ≡ x % 2 ^ 32 + 2 ^ 32 - a - o
    → leb (a + 2 ^ 32 * v + o) (p * (b + 2 ^ 32 * w) + q * (c + 2 ^ 32 * z) + k) ≡ leb (v + (1 - y / 2 ^ 32)) (p * w + q * z + x / 2 ^ 32)
compare_step p q a v b w c z o k x y small owed ex ey =
    let e : p * (b + 2 ^ 32 * w) ≡ p * b + 2 ^ 32 * (p * w) = mul-add p b (2 ^ 32 * w) ∙ rw (mul_left_comm p (2 ^ 32) w) in
    let f : q * (c + 2 ^ 32 * z) ≡ q * c + 2 ^ 32 * (q * z) = mul-add q c (2 ^ 32 * z) ∙ rw (mul_left_comm q (2 ^ 32) z) in
    same (a + 2 ^ 32 * v + o) (p * (b + 2 ^ 32 * w) + q * (c + 2 ^ 32 * z) + k) (v + (1 - y / 2 ^ 32)) (p * w + q * z + x / 2 ^ 32)
    (λ h. omega arith) (λ h. omega arith) refl refl

-- ---- a limb of a difference

left_over : (a b o d : ℕ) → d + b + o ≡ a → a - b - o ≡ d
left_over a b o d e = omega arith

still : (a b o : ℕ) → b + o ≤ a → (a - b - o) + b + o ≡ a
still a b o h = omega arith

module _ (a v b w o o' x : ℕ) (ha : a < 2 ^ 32) (hb : b < 2 ^ 32) (ho : o ≤ 1) (ex : x + b + o ≡ a + 2 ^ 32) (eo : o' + x / 2 ^ 32 ≡ 1) (h : b + 2 ^ 32 * w + o ≤ a + 2 ^ 32 * v) where
  pub difference_fits : w + o' ≤ v
  difference_fits = omega arith

  pub difference_step : a + 2 ^ 32 * v - (b + 2 ^ 32 * w) - o ≡ x % 2 ^ 32 + 2 ^ 32 * (v - w - o')
  difference_step = left_over _ _ _ _ (summed (v - w - o') (still v w o' difference_fits))
    where
      summed : (d : ℕ) → d + w + o' ≡ v → x % 2 ^ 32 + 2 ^ 32 * d + (b + 2 ^ 32 * w) + o ≡ a + 2 ^ 32 * v
      summed d e = omega arith

-- a factor times a limb
pub limb_product : {k l : ℕ} → k ≤ 65536 → l < 2 ^ 32 → k * l ≤ 65536 * 4294967295
limb_product hk hl = mul-le-mul {m₂ = 4294967295} hk (omega arith)

-- ---- the same at limb i of lists

module _ (a b c : List ℕ) (i : ℕ) (ha : i < length a) (hb : i < length b) (hc : i < length c) (l m n : ℕ) (el : l ≡ get_or a i 0) (em : m ≡ get_or b i 0) (en : n ≡ get_or c i 0) where
  pub compare_more : (p q o k : ℕ) → l < 2 ^ 32 → o ≤ 1
      → leb (value (drop (suc i) a) + (1 - ((p * m + q * n + k) % 2 ^ 32 + 2 ^ 32 - l - o) / 2 ^ 32)) (p * value (drop (suc i) b) + q * value (drop (suc i) c) + (p * m + q * n + k) / 2 ^ 32)
      ≡ leb (value (drop i a) + o) (p * value (drop i b) + q * value (drop i c) + k)
  compare_more p q o k small owed =
      rw (value_from a i ha, value_from b i hb, value_from c i hc, ← el, ← em, ← en)
      (sym (compare_step p q l (value (drop (suc i) a)) m (value (drop (suc i) b)) n (value (drop (suc i) c)) o k (p * m + q * n + k) ((p * m + q * n + k) % 2 ^ 32 + 2 ^ 32 - l - o) small owed refl refl))

pub compare_end : (a b c : List ℕ) (i p q o k : ℕ) → length a ≤ i → length b ≤ i → length c ≤ i
    → leb (value (drop i a) + o) (p * value (drop i b) + q * value (drop i c) + k) ≡ leb o k
compare_end a b c i p q o k ha hb hc =
    let e : p * 0 + q * 0 + k ≡ k = omega arith in
    rw (value_end a i ha, value_end b i hb, value_end c i hc, e)
    (ap (λ (n : ℕ). leb n k) (add_comm 0 o ∙ add-zero o))

module _ (a : List ℕ) (i k c l : ℕ) (h : i < length a) (el : l ≡ get_or a i 0) where
  pub product_more : over (set a i ((k * l + c) % 2 ^ 32)) (suc i) (k * value (drop (suc i) (set a i ((k * l + c) % 2 ^ 32))) + (k * l + c) / 2 ^ 32)
      ≡ over a i (k * value (drop i a) + c)
  product_more =
      let x = (k * l + c) % 2 ^ 32 in
      rw (drop-set-lt (suc i) a i x (omega arith), ← over_put a i x (k * value (drop (suc i) a) + (k * l + c) / 2 ^ 32) h, value_from a i h, ← el)
      (ap (over a i) (sym (product_step k l (value (drop (suc i) a)) c)))

none_above : (n c v : ℕ) → n * c ≤ v → v < n → c ≡ 0
none_above n zero v h g = refl
none_above n (suc c) v h g =
    let least : n * 1 ≤ n * suc c = mul-le-mul_left n (omega arith) in
    let no : ⊥ = omega arith in
    absurd no

pub product_end : (a : List ℕ) (i k c v : ℕ) → length a ≡ 36 → i ≡ 36 → over a i (k * value (drop i a) + c) ≡ v → v < cap → value a ≡ v
unfolding cap
product_end a i k c v long all e small =
    let here : i ≡ length a = omega arith in
    let rest : k * 0 + c ≡ c = omega arith in
    let whole : over a (length a) c ≡ v = rw (here, value_end a (length a) (omega arith), rest) at e in
    let room : (2 ^ 32) ^ length a ≡ 2 ^ 1152 = rw long in
    let high : 2 ^ 1152 * c ≤ v = rw (room, whole) at (over_top a c) in
    sym (over_end a) ∙ rw (none_above (2 ^ 1152) c v high small) at whole

module _ (a b : List ℕ) (i o l m : ℕ) (ha : i < length a) (hb : i < length b) (el : l ≡ get_or a i 0) (em : m ≡ get_or b i 0) (sa : l < 2 ^ 32) (sb : m < 2 ^ 32) (ho : o ≤ 1)
    (h : value (drop i b) + o ≤ value (drop i a)) where
  abbrev x : ℕ
  x = l + 2 ^ 32 - m - o

  summed : x + m + o ≡ l + 2 ^ 32
  summed = omega arith

  owing : (1 - x / 2 ^ 32) + x / 2 ^ 32 ≡ 1
  owing = omega arith

  unpacked : m + 2 ^ 32 * value (drop (suc i) b) + o ≤ l + 2 ^ 32 * value (drop (suc i) a)
  unpacked = omega (arith, value_from a i ha, value_from b i hb)

  kept : value (drop (suc i) (set a i (x % 2 ^ 32))) ≡ value (drop (suc i) a)
  kept = ap value (drop-set-lt (suc i) a i (x % 2 ^ 32) (omega arith))

  pub difference_fits_more : value (drop (suc i) b) + (1 - x / 2 ^ 32) ≤ value (drop (suc i) (set a i (x % 2 ^ 32)))
  difference_fits_more =
      rw kept (difference_fits l (value (drop (suc i) a)) m (value (drop (suc i) b)) o (1 - x / 2 ^ 32) x sa sb ho summed owing unpacked)

  pub difference_more : over (set a i (x % 2 ^ 32)) (suc i) (value (drop (suc i) (set a i (x % 2 ^ 32))) - value (drop (suc i) b) - (1 - x / 2 ^ 32))
      ≡ over a i (value (drop i a) - value (drop i b) - o)
  difference_more =
      rw (kept, ← over_put a i (x % 2 ^ 32) (value (drop (suc i) a) - value (drop (suc i) b) - (1 - x / 2 ^ 32)) ha, value_from a i ha, value_from b i hb, ← el, ← em)
      (ap (over a i) (sym (difference_step l (value (drop (suc i) a)) m (value (drop (suc i) b)) o (1 - x / 2 ^ 32) x sa sb ho summed owing unpacked)))

pub difference_end : (a b : List ℕ) (i o v : ℕ) → length a ≡ 36 → i ≡ 36 → over a i (value (drop i a) - value (drop i b) - o) ≡ v → value a ≡ v
difference_end a b i o v long all e =
    let here : i ≡ length a = omega arith in
    let none : value (drop i a) - value (drop i b) - o ≡ 0 = omega (arith, value_end a i (omega arith)) in
    sym (over_end a) ∙ rw (none, here) at e
