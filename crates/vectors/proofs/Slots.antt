-- Laws of slots, and of the loop that writes one. Assumes nothing.
use mathlib.Core.Path.{◌≡◌, refl, sym, ◌∙◌, ap, subst}
use mathlib.Core.Bool.{Bool, true, false, cond}
use mathlib.Core.List.{List, ◌++◌, append_assoc}
use mathlib.Core.Logic.{dite}
use Prim.Native.Nat.{ℕ, ◌+◌, ◌*◌, ◌-◌, ◌<◌, ◌≤◌}
use native.Mathlib.Nat.{mul-le-mul_right, suc-mul}
use native.Mathlib.Numerals.{add-one}
use native.Mathlib.Decide.{dec_lt}
use native.Mathlib.Omega.{arith}
use lib.Dec.{eqb}
use lib.ListN.{length, take, drop, set, get_or-append, length-take, length-drop, length-set}
use lib.Seq.{paste, paste-zero, paste-suc, length-paste, length_paste_head, get_or-take, get_or-drop, get_or-append-add, take_all, take_at, drop_at, length-take-le, ext_get_or}
use borrow.Author.Tests.{eqb-true, eqb-false}
use lib.Ieee.{Float, nan}
use Rattle.vectors.specs.Vector.{at, tab}
use Rattle.vectors.specs.Slots.{slot, Puts}
use Rattle.vectors.proofs.Vectors.{length_tab, at_tab}

-- ---- where a slot stands

pub before : (n j k : ℕ) → j < k → j * n + n ≤ k * n
before n j k h = omega (arith, mul-le-mul_right n h, suc-mul j n)

after : (n j k : ℕ) → (j < k → ⊥) → k * n ≤ j * n
after n j k h = mul-le-mul_right n (omega (arith, h))

pub at_slot : (w : List Float) (n k i : ℕ) → i < n → at (slot w n k) i ≡ at w (k * n + i)
unfolding slot
at_slot w n k i h = get_or-take n (drop (k * n) w) i nan h ∙ get_or-drop (k * n) w i nan

pub length_slot : (w : List Float) (n k : ℕ) → k * n + n ≤ length w → length (slot w n k) ≡ n
unfolding slot
length_slot w n k h = length-take-le n (drop (k * n) w) (omega (arith, length-drop (k * n) w))

-- a list of n numbers is its only slot
pub slot_whole : (w : List Float) (n : ℕ) → length w ≡ n → slot w n 0 ≡ w
unfolding slot
slot_whole w n e = let z : 0 * n ≡ 0 = omega arith in rw z (take_all n w (omega arith))

-- ---- slots of a list, over slot k of which m numbers of v were pasted

module _ (w : List Float) (b : ℕ) (v : List Float) (m : ℕ) (room : b + m ≤ length w) (enough : m ≤ length v) where
  head_long : length (take b w ++ take m v) ≡ b + m
  head_long = length_paste_head w b v m (omega arith) enough

  at_paste_low : (x : ℕ) → x < b → at (paste w b v m) x ≡ at w x
  at_paste_low x h =
      get_or-append (take b w ++ take m v) (drop (b + m) w) nan x (omega (arith, head_long))
      ∙ get_or-append (take b w) (take m v) nan x (omega (arith, length-take-le b w (omega arith)))
      ∙ get_or-take b w x nan h

  at_paste_high : (y : ℕ) → at (paste w b v m) (b + m + y) ≡ at w (b + m + y)
  at_paste_high y =
      ap (λ (k : ℕ). at (paste w b v m) (k + y)) (sym head_long)
      ∙ get_or-append-add (take b w ++ take m v) (drop (b + m) w) y nan
      ∙ get_or-drop (b + m) w y nan

module _ (w : List Float) (n k : ℕ) (v : List Float) (room : k * n + n ≤ length w) (long : length v ≡ n) where
  -- after i turns, number i of every slot is still the old one
  paste_read : (i j : ℕ) → i < n → at (paste w (k * n) v i) (j * n + i) ≡ at (slot w n j) i
  paste_read i j h =
      dite (dec_lt j k)
      (λ low. at_paste_low w (k * n) v i (omega arith) (omega arith) (j * n + i) (omega (arith, before n j k low)))
      (λ high. subst (λ (x : ℕ). at (paste w (k * n) v i) x ≡ at w x) (omega (arith, after n j k high)) (at_paste_high w (k * n) v i (omega arith) (omega arith) (j * n - k * n)))
      ∙ sym (at_slot w n j i h)

  -- every other slot is as it was
  slot_other : (j m : ℕ) → m ≤ n → eqb j k ≡ false → slot (paste w (k * n) v m) n j ≡ slot w n j
  unfolding slot
  slot_other j m upto ne =
      ext_get_or nan (slot (paste w (k * n) v m) n j) (slot w n j)
      (simp (length-take, length-drop, length-paste w (k * n) v m (omega arith) (omega arith)))
      (λ i h.
      let small : i < n = omega (arith, h, length-take n (drop (j * n) (paste w (k * n) v m))) in
      at_slot (paste w (k * n) v m) n j i small
      ∙ dite (dec_lt j k)
      (λ low. at_paste_low w (k * n) v m (omega arith) (omega arith) (j * n + i) (omega (arith, before n j k low)))
      (λ high.
      subst (λ (x : ℕ). at (paste w (k * n) v m) x ≡ at w x)
      (omega (arith, before n k j (omega (arith, high, eqb-false j k ne))))
      (at_paste_high w (k * n) v m (omega arith) (omega arith) (j * n - (k * n + m) + i)))
      ∙ sym (at_slot w n j i small))

  slot_same : slot (paste w (k * n) v n) n k ≡ v
  unfolding slot
  slot_same =
      ap (λ (l : List Float). take n (drop (k * n) l)) (append_assoc (take (k * n) w) (take n v) (drop (k * n + n) w))
      ∙ ap (take n) (drop_at (take (k * n) w) (take n v ++ drop (k * n + n) w) (k * n) (length-take-le (k * n) w (omega arith)))
      ∙ take_at (take n v) (drop (k * n + n) w) n (length-take-le n v (omega arith))
      ∙ take_all n v (omega arith)

  puts : Puts w n k v (paste w (k * n) v n)
  puts j = pick (eqb j k) refl where
    pick : (b : Bool) → eqb j k ≡ b → slot (paste w (k * n) v n) n j ≡ cond b v (slot w n j)
    pick true e = subst (λ (m : ℕ). slot (paste w (k * n) v n) n m ≡ v) (sym (eqb-true j k e)) slot_same
    pick false e = slot_other j n (omega arith) e

-- ---- a loop that writes slot k, one number a turn

-- after i turns over the list old, the first i numbers of slot k are f's
pub record Writing (old : List Float) (n k : ℕ) (f : ℕ → Float) (w : List Float) (i : ℕ) : Type 0 where
  pub room : k * n + n ≤ length old
  pub upto : i ≤ n
  pub long : length w ≡ length old
  pub is : w ≡ paste old (k * n) (tab n f) i

pub writing_none : {old : List Float} {n k : ℕ} {f : ℕ → Float} → k * n + n ≤ length old → Writing old n k f old 0
writing_none {old} {n} {k} {f} h = record { room = h; upto = omega arith; long = refl; is = paste-zero old (k * n) (tab n f) }

pub writing_more : {old w : List Float} {n k : ℕ} {f : ℕ → Float} {i : ℕ} {y : Float} → Writing old n k f w i → i < n → y ≡ f i
    → Writing old n k f (set w (k * n + i) y) (i + 1)
writing_more {old} {w} {n} {k} {f} {i} {y} p h e = record {
  room = p.room;
  upto = omega arith;
  long = length-set w (k * n + i) y ∙ p.long;
  is =
      rw p.is
      (ap (set (paste old (k * n) (tab n f) i) (k * n + i)) (e ∙ sym (at_tab n f i h))
      ∙ paste-suc old (k * n) (tab n f) i nan (omega (arith, p.room)) (omega (arith, length_tab n f))
      ∙ ap (paste old (k * n) (tab n f)) (sym (add-one i)));
}

-- number i of every slot is still the old one, and every other slot is whole
pub writing_read : {old w : List Float} {n k : ℕ} {f : ℕ → Float} {i : ℕ} → Writing old n k f w i → (j : ℕ) → i < n
    → at w (j * n + i) ≡ at (slot old n j) i
writing_read {old} {w} {n} {k} {f} {i} p j h = rw p.is (paste_read old n k (tab n f) p.room (length_tab n f) i j h)

pub writing_other : {old w : List Float} {n k : ℕ} {f : ℕ → Float} {i : ℕ} → Writing old n k f w i → (j : ℕ) → eqb j k ≡ false → slot w n j ≡ slot old n j
writing_other {old} {w} {n} {k} {f} {i} p j ne = rw p.is (slot_other old n k (tab n f) p.room (length_tab n f) j i p.upto ne)

pub writing_done : {old w : List Float} {n k : ℕ} {f : ℕ → Float} {i : ℕ} → Writing old n k f w i → n ≤ i → Puts old n k (tab n f) w
writing_done {old} {w} {n} {k} {f} {i} p h =
    let e : i ≡ n = omega arith in
    rw (p.is, e) (puts old n k (tab n f) p.room (length_tab n f))

-- ---- a loop that writes a whole vector is one that writes its only slot

pub filling_none : {old : List Float} {n : ℕ} {f : ℕ → Float} → length old ≡ n → Writing old n 0 f old 0
filling_none h = writing_none (omega arith)

pub filling_more : {old w : List Float} {n : ℕ} {f : ℕ → Float} {i : ℕ} {y : Float} → Writing old n 0 f w i → i < n → y ≡ f i
    → Writing old n 0 f (set w i y) (i + 1)
filling_more {old} {w} {n} {f} {i} {y} p h e =
    let z : 0 * n + i ≡ i = omega arith in
    subst (λ (k : ℕ). Writing old n 0 f (set w k y) (i + 1)) z (writing_more p h e)

pub filling_done : {old w : List Float} {n : ℕ} {f : ℕ → Float} {i : ℕ} → Writing old n 0 f w i → n ≤ i → length old ≡ n → w ≡ tab n f
filling_done {old} {w} {n} {f} {i} p h e = sym (slot_whole w n (p.long ∙ e)) ∙ writing_done p h 0

-- a vector that is put into a list of its own length is all of it
pub puts_whole : (w w' v : List Float) (n : ℕ) → Puts w n 0 v w' → length w' ≡ n → w' ≡ v
puts_whole w w' v n p e = sym (slot_whole w' n e) ∙ p 0
