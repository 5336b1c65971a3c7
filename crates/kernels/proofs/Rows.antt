-- Laws of the rows in a scratch, and of the elimination. Assumes nothing.
use mathlib.Core.Path.{◌≡◌, refl, sym, ◌∙◌, ap, subst, fun_ext}
use mathlib.Core.Bool.{Bool, true, false, cond}
use mathlib.Core.List.{List, [], ◌++◌}
use mathlib.Core.Logic.{dite}
use Prim.Native.Nat.{ℕ, zero, suc, ◌+◌, ◌*◌, ◌-◌, ◌<◌, ◌≤◌}
use native.Mathlib.Nat.{mul-le-mul_right, suc-mul, add-mul, mul-add, add_assoc}
use native.Mathlib.Numerals.{add-one}
use native.Mathlib.Decide.{dec_lt}
use native.Mathlib.Omega.{arith}
use lib.Dec.{eqb, ltb}
use lib.ListN.{length, take, drop, drop_of_length-le, length-drop}
use lib.Seq.{take-nil, take-add, take_all, drop-drop, length-take-le, get_or-take, get_or-drop}
use lib.Ieee.{Float, nan, lt}
use borrow.Author.Tests.{eqb-true, eqb-false, eq-eqb, ne_eqb, ltb-true, ltb-false, lt-ltb, le-ltb}
use Rattle.float.specs.Constants.{nought, one}
use Rattle.float.specs.Numbers.{◌⊖◌, ◌⊗◌, ◌⊘◌, magnitude}
use Rattle.vectors.specs.Vector.{at, tab, over, flat}
use Rattle.vectors.specs.Slots.{slot, Puts}
use Rattle.vectors.specs.Refusal.{Answer, refused, given, then, room, Roomy}
use Rattle.kernels.specs.Workspace.{map, zip}
use Rattle.vectors.specs.declared.refusal.Refusal.TheVariants.{Pivot}
use Rattle.kernels.specs.Inverse.{Rows, with_row, rows_in, entry, start, start_entry, pivot_among, pivot_row, no_pivot, swapped, divided, cleared_row, cleared, column_by, column, columns, right_row}
use Rattle.vectors.proofs.Vectors.{tab_at, tab_same}
use Rattle.kernels.proofs.Ops.{map_over, zip_less_times}
use Rattle.vectors.proofs.Slots.{before, at_slot, Writing, writing_other}

-- ---- room

-- a scratch is 4 + n slots of 2·n numbers
room_is : (n : ℕ) → room n ≡ (4 + n) * (n + n)
room_is n = omega (arith, add-mul 4 n (n + n), mul-add n n n)

-- row i lies within it, and so do its first numbers and its slots below 8
pub row_room : {n len : ℕ} → Roomy n len → (i : ℕ) → i < n → (4 + i) * (n + n) + (n + n) ≤ len
row_room {n} r i h = omega (arith, before (n + n) (4 + i) (4 + n) (omega arith), r.long, room_is n)

pub low_room : {n len : ℕ} → Roomy n len → (k : ℕ) → k < 8 → k * n + n ≤ len
low_room {n} r k h = omega (arith, before n k 8 h, r.long)

pub roomy_same : {n len len' : ℕ} → Roomy n len → len' ≡ len → Roomy n len'
roomy_same r e = record { high = r.high; long = e ∙ r.long }

-- ---- what a write to the scratch makes of the rows

shift : (i p : ℕ) → eqb (4 + i) (4 + p) ≡ eqb i p
shift i p = pick (eqb i p) refl where
  pick : (b : Bool) → eqb i p ≡ b → eqb (4 + i) (4 + p) ≡ b
  pick true e = eq-eqb (4 + i) (4 + p) (omega (arith, eqb-true i p e))
  pick false e = ne_eqb (4 + i) (4 + p) (λ z. eqb-false i p e (omega (arith, z)))

row_not_spare : (i : ℕ) → eqb (4 + i) 0 ≡ false
row_not_spare i = ne_eqb (4 + i) 0 (λ z. omega (arith, z))

spare_not_row : (i : ℕ) → eqb 0 (4 + i) ≡ false
spare_not_row i = ne_eqb 0 (4 + i) (λ z. omega (arith, z))

rows_put : (w w' : List Float) (n k : ℕ) (v : List Float) → Puts w (n + n) (4 + k) v w' → rows_in w' n ≡ with_row (rows_in w n) k v
rows_put w w' n k v a = fun_ext (λ i. a (4 + i) ∙ rw (shift i k))

rows_spare : (w w' : List Float) (n : ℕ) (v : List Float) → Puts w (n + n) 0 v w' → rows_in w' n ≡ rows_in w n
rows_spare w w' n v a = fun_ext (λ i. a (4 + i) ∙ rw (row_not_spare i))

-- rows j and p swapped: row j, and the others
swapped_at : (R : Rows) (j p : ℕ) → swapped R j p j ≡ R p
unfolding swapped
swapped_at R j p = pick (eqb j p) refl where
  pick : (b : Bool) → eqb j p ≡ b → cond b (R j) (cond (eqb j j) (R p) (R j)) ≡ R p
  pick true e = ap R (eqb-true j p e)
  pick false e = rw (eq-eqb j j refl)

swapped_with : (R : Rows) (j p : ℕ) (v : List Float) → with_row (with_row R p (R j)) j v ≡ with_row (swapped R j p) j v
unfolding swapped
swapped_with R j p v = fun_ext (λ i. pick i (eqb i j)) where
  pick : (i : ℕ) (b : Bool) → cond b v (cond (eqb i p) (R j) (R i)) ≡ cond b v (cond (eqb i p) (R j) (cond b (R p) (R i)))
  pick i true = refl
  pick i false = refl

pub takes_pivot : (w w₁ w₂ w₃ : List Float) (n j p : ℕ) (x : Float) → x ≡ entry (rows_in w n) p j
    → Puts w (n + n) 0 (map (n + n) (λ u. u ⊘ x) (slot w (n + n) (4 + p))) w₁
    → (rows_in w₂ n ≡ with_row (rows_in w₁ n) p (rows_in w₁ n j)) × (slot w₂ (n + n) 0 ≡ slot w₁ (n + n) 0)
    → Puts w₂ (n + n) (4 + j) (slot w₂ (n + n) 0) w₃
    → (rows_in w₃ n ≡ divided n (swapped (rows_in w n) j p) j) × (slot w₃ (n + n) 0 ≡ rows_in w₃ n j)
unfolding divided over
takes_pivot w w₁ w₂ w₃ n j p x e a b c =
    let m = n + n in
    let R = rows_in w n in
    let old : rows_in w₁ n ≡ R = rows_spare w w₁ n _ a in
    let moved : rows_in w₂ n ≡ with_row R p (R j) = b.0 ∙ ap (λ (S : Rows). with_row S p (S j)) old in
    let there : slot w₃ m (4 + j) ≡ slot w₂ m 0 = c (4 + j) ∙ rw (eq-eqb (4 + j) (4 + j) refl) in
    let spare : slot w₃ m 0 ≡ slot w₂ m 0 = c 0 ∙ rw (spare_not_row j) in
    let put : rows_in w₃ n ≡ with_row (with_row R p (R j)) j (over m (R p) (entry R p j)) =
    rows_put w₂ w₃ n j _ c ∙ rw (b.1, a 0, moved, map_over m (slot w m (4 + p)) x, e) in
    (put ∙ swapped_with R j p _ ∙ rw (swapped_at R j p), spare ∙ sym there)

pub clears : (w w₁ : List Float) (n j i : ℕ) (x : Float) → x ≡ entry (rows_in w n) i j → slot w (n + n) 0 ≡ rows_in w n j
    → Puts w (n + n) (4 + i) (zip (n + n) (λ u v. u ⊖ x ⊗ v) (slot w (n + n) (4 + i)) (slot w (n + n) 0)) w₁
    → (rows_in w₁ n ≡ cleared_row n (rows_in w n) j i) × (slot w₁ (n + n) 0 ≡ slot w (n + n) 0)
unfolding cleared_row
clears w w₁ n j i x e s a = (rows_put w w₁ n i _ a ∙ rw (s, zip_less_times (n + n) (slot w (n + n) (4 + i)) (rows_in w n j) x, e), a 0 ∙ rw (spare_not_row i))

-- ---- a loop that writes slots b, b + 1 ..

-- after i turns, slots b to b + i - 1 are f 0 to f (i - 1)
abbrev pub Laid : (n b : ℕ) (f : ℕ → List Float) (w : List Float) (i : ℕ) → Type 0
Laid n b f w i = (k : ℕ) → k < i → slot w n (b + k) ≡ f k

pub laid_more : (n b : ℕ) (f : ℕ → List Float) (w : List Float) (i : ℕ) → Laid n b f w i → (w' v : List Float) → Puts w n (b + i) v w' → v ≡ f i → Laid n b f w' (i + 1)
laid_more n b f w i p w' v a e k h =
    dite (dec_lt k i)
    (λ low. a (b + k) ∙ rw (ne_eqb (b + k) (b + i) (λ z. omega (arith, low, z))) (p k low))
    (λ high. let same : k ≡ i = omega (arith, h, high) in a (b + k) ∙ rw (eq-eqb (b + k) (b + i) (omega (arith, same)), same) e)

pub laid_more₀ : (n : ℕ) (f : ℕ → List Float) (w : List Float) (i : ℕ) → Laid n 0 f w i → (w' v : List Float) → Puts w n i v w' → v ≡ f i → Laid n 0 f w' (i + 1)
laid_more₀ n f w i p w' v a e = let z : 0 + i ≡ i = omega arith in laid_more n 0 f w i p w' v (rw z a) e

-- row i of [H | I], where its halves are there
module _ (n i : ℕ) (H row : List Float) (left : (k : ℕ) → k < n → at row k ≡ at H (i * n + k)) (right : (k : ℕ) → k < n → at row (n + k) ≡ cond (eqb k i) one nought) where
  on_right : (k : ℕ) → k < n → at row (n + k) ≡ start_entry n H i (n + k)
  on_right k h = right k h ∙ rw (le-ltb (n + k) n (omega arith)) (pick (eqb k i) refl) where
    pick : (b : Bool) → eqb k i ≡ b → cond b one nought ≡ cond (eqb (n + k) (n + i)) one nought
    pick true e = rw (eq-eqb (n + k) (n + i) (ap (λ (m : ℕ). n + m) (eqb-true k i e)))
    pick false e = rw (ne_eqb (n + k) (n + i) (λ z. eqb-false k i e (omega (arith, z))))

  pub starts : (k : ℕ) → k < n + n → at row k ≡ start_entry n H i k
  starts k l =
      dite (dec_lt k n)
      (λ low. left k low ∙ rw (lt-ltb k n low))
      (λ high. let there : n + (k - n) ≡ k = omega (arith, high) in subst (λ (m : ℕ). at row m ≡ start_entry n H i m) there (on_right (k - n) (omega (arith, l, high))))

-- the rows of [H | I], once all are laid
pub laid_start : (w : List Float) (n : ℕ) (h : List Float) → Laid (n + n) 4 (λ i. tab (n + n) (start_entry n h i)) w n → Roomy n (length w) → rows_in w n ≡ start n h
unfolding start slot
laid_start w n h p r = fun_ext (λ k. pick k (ltb k n) refl) where
  pick : (k : ℕ) (b : Bool) → ltb k n ≡ b → rows_in w n k ≡ cond b (tab (n + n) (start_entry n h k)) []
  pick k true e = p k (ltb-true k n e)
  pick k false e =
      let over : 4 + n ≤ 4 + k = omega (arith, ltb-false k n e) in
      let far : length w ≤ (4 + k) * (n + n) = omega (arith, mul-le-mul_right (n + n) over, r.long, room_is n) in
      rw (drop_of_length-le w far) (take-nil (n + n))

-- a vector of n * n numbers is its n slots, end to end
flat_slots : (v : List Float) (n : ℕ) (f : ℕ → List Float) (k : ℕ) → ((i : ℕ) → i < k → slot v n i ≡ f i) → take (k * n) v ≡ flat k f
unfolding flat slot
flat_slots v n f zero a = let e : 0 * n ≡ 0 = omega arith in rw e
flat_slots v n f (suc k) a =
    let e : suc k * n ≡ k * n + n = omega (arith, suc-mul k n) in
    rw (e, take-add (k * n) n v) (ap (λ (l : List Float). l ++ take n (drop (k * n) v)) (flat_slots v n f k (λ i h. a i (omega (arith, h)))) ∙ ap (λ (l : List Float). flat k f ++ l) (a k (omega arith)))

pub laid_flat : (w : List Float) (n : ℕ) (f : ℕ → List Float) → Laid n 0 f w n → length w ≡ n * n → w ≡ flat n f
laid_flat w n f p e = sym (take_all (n * n) w (omega (arith, e))) ∙ flat_slots w n f n (λ k h. let z : 0 + k ≡ k = omega arith in rw z at (p k h))

-- ---- the pivot row

module _ (R : Rows) (n j p i : ℕ) (below : suc j ≤ i) (inv : p ≡ pivot_among R j (i - suc j)) where
  next : pivot_among R j (i + 1 - suc j) ≡ cond (lt (magnitude (entry R p j)) (magnitude (entry R i j))) i p
  unfolding pivot_among
  next =
      let more : i + 1 - suc j ≡ suc (i - suc j) = omega arith in
      let here : suc j + (i - suc j) ≡ i = omega arith in
      rw (more, here, ← inv)

  pub moves : (x y : Float) → x ≡ magnitude (entry R p j) → y ≡ magnitude (entry R i j) → lt x y ≡ true → i ≡ pivot_among R j (i + 1 - suc j)
  moves x y a b t = sym (next ∙ rw (← a, ← b, t))

  pub stays : (x y : Float) → x ≡ magnitude (entry R p j) → y ≡ magnitude (entry R i j) → lt x y ≡ false → p ≡ pivot_among R j (i + 1 - suc j)
  stays x y a b t = sym (next ∙ rw (← a, ← b, t))

  pub pivot_found : n ≤ i → i ≤ n → p ≡ pivot_row n R j
  pivot_found a b = let e : i ≡ n = omega arith in rw e at inv

pub pivot_first : (R : Rows) (j : ℕ) → j ≡ pivot_among R j (j + 1 - suc j)
unfolding pivot_among
pivot_first R j = let e : j + 1 - suc j ≡ 0 = omega arith in rw e

-- ---- rows cleared one after the other

module _ (n j i : ℕ) (R S : Rows) (inv : S ≡ cleared n R j i) where
  pub cleared_one : (T : Rows) → (i ≡ j → ⊥) → T ≡ cleared_row n S j i → T ≡ cleared n R j (i + 1)
  unfolding cleared
  cleared_one T ne e = e ∙ rw (inv, add-one, ne_eqb i j ne)

  pub cleared_none : i ≡ j → S ≡ cleared n R j (i + 1)
  unfolding cleared
  cleared_none e = inv ∙ rw (add-one, eq-eqb i j e)

-- row j stays as it was
cleared_keeps : (n j i : ℕ) (R : Rows) → cleared n R j i j ≡ R j
unfolding cleared cleared_row
cleared_keeps n j zero R = refl
cleared_keeps n j (suc i) R = pick (eqb i j) refl ∙ cleared_keeps n j i R where
  pick : (b : Bool) → eqb i j ≡ b → cond b (cleared n R j i) (cleared_row n (cleared n R j i) j i) j ≡ cleared n R j i j
  pick true e = refl
  pick false e = rw (ne_eqb j i (λ z. eqb-false i j e (sym z)))

-- and so does what was read apart from the rows
pub still_apart : (w w₀ : List Float) (n j i : ℕ) → slot w₀ (n + n) 0 ≡ rows_in w₀ n j → rows_in w n ≡ cleared n (rows_in w₀ n) j i
    → slot w (n + n) 0 ≡ slot w₀ (n + n) 0 → slot w (n + n) 0 ≡ rows_in w n j
still_apart w w₀ n j i e inv s = s ∙ e ∙ sym (ap (λ (S : Rows). S j) inv ∙ cleared_keeps n j i (rows_in w₀ n))

-- ---- a column, and all of them

module _ (bound : Float) (n j p : ℕ) (R : Rows) (x : Float) (e : p ≡ pivot_row n R j) (f : x ≡ entry R p j) where
  pub column_ends : no_pivot bound x ≡ true → refused Pivot ≡ column bound n R j
  unfolding column column_by
  column_ends t = rw (← e, ← f, t)

  pub column_done : (R₁ R₂ : Rows) → no_pivot bound x ≡ false → R₁ ≡ divided n (swapped R j p) j → R₂ ≡ cleared n R₁ j n → given R₂ ≡ column bound n R j
  unfolding column column_by
  column_done R₁ R₂ t a b = rw (← e, ← f, t, b, a)

-- a column takes one from those that are left
pub columns_more : (bound : Float) (n j : ℕ) (R : Rows) (all o : Answer Rows) → j < n → columns bound n (n - j) j R ≡ all → o ≡ column bound n R j
    → then (columns bound n (n - (j + 1)) (j + 1)) o ≡ all
unfolding columns
columns_more bound n j R all o l inv e =
    let more : n - j ≡ suc (n - (j + 1)) = omega arith in
    rw e (rw (add-one j) (rw (more, add-one j) at inv))

pub columns_end : (bound : Float) (n j : ℕ) (R : Rows) (all : Answer Rows) → n ≤ j → columns bound n (n - j) j R ≡ all → given R ≡ all
unfolding columns
columns_end bound n j R all l inv = let none_left : n - j ≡ 0 = omega arith in rw none_left at inv

-- ---- the right half of a row, where it stands

module _ (w : List Float) (n i : ℕ) (r : Roomy n (length w)) (h : i < n) where
  pub right_long : length (take n (drop ((4 + i) * (n + n) + n) w)) ≡ n
  right_long = length-take-le n (drop ((4 + i) * (n + n) + n) w) (omega (arith, length-drop ((4 + i) * (n + n) + n) w, row_room r i h))

  pub right_part : take n (drop ((4 + i) * (n + n) + n) w) ≡ right_row n (rows_in w n) i
  unfolding right_row
  right_part =
      sym (tab_at (take n (drop ((4 + i) * (n + n) + n) w)) n right_long)
      ∙ tab_same n (at (take n (drop ((4 + i) * (n + n) + n) w))) (λ k. at (rows_in w n i) (n + k))
      (λ k l. get_or-take n (drop ((4 + i) * (n + n) + n) w) k nan l ∙ get_or-drop ((4 + i) * (n + n) + n) w k nan
      ∙ ap (at w) (add_assoc ((4 + i) * (n + n)) n k) ∙ sym (at_slot w (n + n) (4 + i) (n + k) (omega arith)))

-- ---- what is written to the first eight runs of n numbers leaves the rows as they are

-- a run of 2·n numbers is two runs of n
pair : (w : List Float) (n k : ℕ) → slot w (n + n) k ≡ slot w n (k + k) ++ slot w n (suc (k + k))
unfolding slot
pair w n k =
    let here : k * (n + n) ≡ (k + k) * n = omega (arith, mul-add k n n, add-mul k k n) in
    let there : (k + k) * n + n ≡ suc (k + k) * n = omega (arith, suc-mul (k + k) n) in
    rw (take-add n n (drop (k * (n + n)) w), drop-drop n (k * (n + n)) w, here, there)

pub rows_kept : (w w' : List Float) (n : ℕ) → ((k : ℕ) → 8 ≤ k → slot w' n k ≡ slot w n k) → rows_in w' n ≡ rows_in w n
rows_kept w w' n a =
    fun_ext (λ i. pair w' n (4 + i) ∙ rw (a (4 + i + (4 + i)) (omega arith), a (suc (4 + i + (4 + i))) (omega arith)) (sym (pair w n (4 + i))))

pub low_writing : {old w : List Float} {n k : ℕ} {f : ℕ → Float} {i : ℕ} → k < 8 → Writing old n k f w i → rows_in w n ≡ rows_in old n
low_writing {old} {w} {n} {k} {f} {i} h p = rows_kept old w n (λ j l. writing_other p j (ne_eqb j k (λ z. omega (arith, z, l, h))))
