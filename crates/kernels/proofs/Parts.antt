-- A slot that is written as a part of its list, or copied from another. Assumes nothing.
use mathlib.Core.Path.{◌≡◌, ◌∙◌, refl, sym}
use mathlib.Core.List.{List}
use Prim.Native.Nat.{ℕ, ◌+◌, ◌*◌, ◌<◌, ◌≤◌}
use native.Mathlib.Omega.{arith}
use lib.ListN.{length, drop}
use lib.Seq.{paste, length-paste, take-take}
use lib.Ieee.{Float}
use borrow.Rule.Slice.PartMut.{put_mid}
use Rattle.std.proofs.lemmas.Slice.{put_mid-paste}
use Rattle.vectors.specs.Vector.{at, tab}
use Rattle.vectors.specs.Slots.{slot, Puts}
use Rattle.vectors.proofs.Vectors.{tab_at, tab_same, length_tab}
use Rattle.vectors.proofs.Slots.{Writing, writing_done, length_slot}

module _ (w : List Float) (n k : ℕ) (room : k * n + n ≤ length w) where
  pasted : (f : ℕ → Float) → Puts w n k (tab n f) (paste w (k * n) (tab n f) n)
  pasted f =
      let long : length (paste w (k * n) (tab n f) n) ≡ length w = length-paste w (k * n) (tab n f) n (omega arith) (omega (arith, length_tab n f)) in
      let done : Writing w n k f (paste w (k * n) (tab n f) n) n = record { room = room; upto = omega arith; long = long; is = refl } in
      writing_done done (omega arith)

  -- over slot k, lent as m numbers, stand ys, whose numbers are f's
  pub puts_part : (ys : List Float) (m : ℕ) (f : ℕ → Float) → m ≡ n → length ys ≡ n → ((i : ℕ) → i < n → at ys i ≡ f i) → Puts w n k (tab n f) (put_mid (k * n) m w ys)
  puts_part ys m f whole long is =
      let all : ys ≡ tab n f = sym (tab_at ys n long) ∙ tab_same n (at ys) f is in
      rw (put_mid-paste (k * n) m w ys (tab n f) n all (sym whole) (sym (length_tab n f))) (pasted f)

  -- over slot k stands what was in slot x, copied as m numbers
  pub puts_copy : (w' : List Float) (x m : ℕ) → x * n + n ≤ length w → m ≡ n → w' ≡ paste w (k * n) (drop (x * n) w) m → Puts w n k (slot w n x) w'
  unfolding slot
  puts_copy w' x m h whole is =
      let once : paste w (k * n) (slot w n x) n ≡ paste w (k * n) (drop (x * n) w) n = rw (take-take n n (drop (x * n) w) (omega arith)) in
      rw (is, whole, ← once) (rw (tab_at (slot w n x) n (length_slot w n x h)) at (pasted (at (slot w n x))))
