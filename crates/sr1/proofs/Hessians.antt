-- Laws of the update of the Hessian: z, the test of every new entry, and the writing of them. Assumes nothing.
use mathlib.Core.Path.{◌≡◌, refl, sym, ap, ◌∙◌}
use mathlib.Core.Bool.{Bool, true, false, ◌&&◌}
use mathlib.Core.List.{List, [], ◌∷◌, ◌++◌}
use mathlib.Core.Logic.{dite}
use Prim.Native.Nat.{ℕ, zero, suc, ◌+◌, ◌*◌, ◌<◌, ◌≤◌}
use native.Mathlib.Nat.{not-suc-le-zero, le_of_suc-le-suc}
use native.Mathlib.Decide.{dec_lt}
use native.Mathlib.Omega.{arith}
use lib.ListN.{length}
use lib.Ieee.{Float}
use borrow.Author.Tests.{ne_eqb}
use Rattle.std.specs.Prelude.{Result, Ok, Err}
use Rattle.float.specs.Numbers.{◌⊕◌, ◌⊖◌, ◌⊗◌, ◌⊘◌, finite}
use Rattle.float.specs.Constants.{one}
use Rattle.vectors.specs.Vector as Vector
use Rattle.vectors.specs.Vector.{at, tab, flat, dot, times_at, minus, all_finite}
use Rattle.vectors.specs.Slots.{slot, Puts}
use Rattle.vectors.specs.declared.refusal.Refusal.{Refusal}
use Rattle.vectors.specs.declared.refusal.Refusal.TheVariants.{Range}
use Rattle.vectors.proofs.Sizes.{and_assoc, and_true}
use Rattle.vectors.proofs.Vectors.{at_tab, tab_same, at_times}
use Rattle.kernels.proofs.Rows.{Laid, laid_more₀, laid_flat}
use Rattle.sr1.specs.Session.{residual, ported_rule, book_rule, updates, gained_row, gained, updated_by, updated}
use Rattle.sr1.specs.Calls.{Updates}
use Rattle.sr1.specs.declared.settings.Settings.{Settings}

-- ---- z, number by number

abbrev pub residual_at : ℕ → (new_gradient gradient hessian step : List Float) → ℕ → Float
residual_at n new_gradient gradient hessian step i = at new_gradient i ⊖ at gradient i ⊖ times_at n hessian step i

pub residual_is : (n : ℕ) (new_gradient gradient hessian step : List Float) → tab n (residual_at n new_gradient gradient hessian step) ≡ residual n new_gradient gradient hessian step
unfolding residual minus
residual_is n new_gradient gradient hessian step =
    tab_same n _ _ (λ i h. rw (at_tab n (λ j. at new_gradient j ⊖ at gradient j) i h, at_times n hessian step i h))

-- ---- the entries of a row, and the rows

pub and_false : (b : Bool) → (b && false) ≡ false
and_false true = refl
and_false false = refl

-- of so many entries, and of one more
pub seen_none : (f : ℕ → Float) → true ≡ all_finite (tab 0 f)
unfolding tab all_finite
seen_none f = refl

pub seen_more : (j : ℕ) (f : ℕ → Float) → all_finite (tab (suc j) f) ≡ (all_finite (tab j f) && finite (f j))
unfolding tab all_finite
seen_more zero f = and_true (finite (f 0))
seen_more (suc j) f = rw (seen_more j (λ k. f (suc k))) (sym (and_assoc (finite (f 0)) (all_finite (tab j (λ k. f (suc k)))) (finite (f (suc j)))))

pub row_bad : (n : ℕ) (f : ℕ → Float) (k : ℕ) → k < n → finite (f k) ≡ false → all_finite (tab n f) ≡ false
unfolding tab all_finite
row_bad zero f k l e = absurd (not-suc-le-zero l)
row_bad (suc n) f zero l e = rw e
row_bad (suc n) f (suc k) l e = rw (row_bad n (λ j. f (suc j)) k (le_of_suc-le-suc l) e) (and_false (finite (f 0)))

end_to_end : (a b : List Float) → all_finite (a ++ b) ≡ (all_finite a && all_finite b)
unfolding all_finite
end_to_end [] b = refl
end_to_end (x ∷ a) b = go (finite x) (end_to_end a b) where
  go : (c : Bool) → all_finite (a ++ b) ≡ (all_finite a && all_finite b) → (c && all_finite (a ++ b)) ≡ ((c && all_finite a) && all_finite b)
  go true e = e
  go false e = refl

pub rows_none : (f : ℕ → List Float) → all_finite (flat 0 f) ≡ true
unfolding flat all_finite
rows_none f = refl

pub rows_more : (i : ℕ) (f : ℕ → List Float) → all_finite (flat i f) ≡ true → all_finite (f i) ≡ true → all_finite (flat (suc i) f) ≡ true
unfolding flat
rows_more i f e h = end_to_end (flat i f) (f i) ∙ rw (e, h)

pub rows_bad : (n : ℕ) (f : ℕ → List Float) (k : ℕ) → k < n → all_finite (f k) ≡ false → all_finite (flat n f) ≡ false
unfolding flat
rows_bad zero f k l e = absurd (not-suc-le-zero l)
rows_bad (suc n) f k l e =
    end_to_end (flat n f) (f n)
    ∙ dite (dec_lt k n)
    (λ low. rw (rows_bad n f k low e))
    (λ high. let same : n ≡ k = omega (arith, l, high) in rw same (rw e (and_false (all_finite (flat k f)))))

-- ---- a loop that writes row after row

-- the rows above i are the new ones, and from i on the old ones
pub record Gaining (n : ℕ) (old z : List Float) (share : Float) (w : List Float) (i : ℕ) : Type 0 where
  pub upto : i ≤ n
  pub long : length w ≡ length old
  pub laid : Laid n 0 (gained_row n old z share) w i
  pub rest : (k : ℕ) → i ≤ k → slot w n k ≡ slot old n k

pub gaining_more : {n : ℕ} {old z : List Float} {share : Float} {w : List Float} {i : ℕ} → Gaining n old z share w i → i < n
    → (w' : List Float) → Puts w n i (gained_row n w z share i) w' → length w' ≡ length w → Gaining n old z share w' (i + 1)
unfolding gained_row
gaining_more {n} {old} {z} {share} {w} {i} p h w' a l = record {
  upto = omega arith;
  long = l ∙ p.long;
  laid = laid_more₀ n _ w i p.laid w' (gained_row n w z share i) a (ap (λ (r : List Float). tab n (λ j. at r j ⊕ at z i ⊗ at z j ⊗ share)) (p.rest i (omega arith)));
  rest = λ k b. a k ∙ rw (ne_eqb k i (λ e. omega (arith, b, e))) (p.rest k (omega (arith, b)));
}

pub gaining_done : {n : ℕ} {old z : List Float} {share : Float} {w : List Float} {i : ℕ} → Gaining n old z share w i → n ≤ i → length old ≡ n * n → w ≡ gained n old z share
unfolding gained
gaining_done {n} {old} {z} {share} {w} {i} p h e = let all : i ≡ n = omega arith in laid_flat w n (gained_row n old z share) (rw all at p.laid) (p.long ∙ e)

-- ---- the test, by the edition; nothing else looks inside it

module _ (t : Settings) (norm : Float) (z : List Float) (q : Float) where
  pub by_first : t.edition ≡ 1 → updates t norm z q ≡ ported_rule t.factor norm q
  unfolding updates
  by_first e = rw e

  -- x is the norm of z
  pub by_other : (t.edition ≡ 1 → ⊥) → (x : Float) → x ≡ Vector.norm z → updates t norm z q ≡ book_rule t.factor norm x q
  unfolding updates
  by_other h x e = rw (ne_eqb t.edition 1 h, e)

-- ---- the whole update

module _ (n : ℕ) (t : Settings) (norm : Float) (hessian step z : List Float) (q : Float) (is_q : q ≡ dot step z) where
  pub kept : updates t norm z q ≡ false → all_finite hessian ≡ true → Updates (updated_by n t norm hessian step z) (Ok tt) hessian hessian
  unfolding updated_by
  kept u a = rw (← is_q, u) (record { says = rw a; leaves = rw a })

  module _ (u : updates t norm z q ≡ true) where
    pub not_finite : all_finite (gained n hessian z (one ⊘ q)) ≡ false → Updates (updated_by n t norm hessian step z) (Err Range) hessian hessian
    unfolding updated_by
    not_finite a = rw (← is_q, u) (record { says = rw a; leaves = rw a })

    pub written : (hessian' : List Float) → all_finite (gained n hessian z (one ⊘ q)) ≡ true → hessian' ≡ gained n hessian z (one ⊘ q)
        → Updates (updated_by n t norm hessian step z) (Ok tt) hessian hessian'
    unfolding updated_by
    written hessian' a e = rw (← is_q, u) (record { says = rw a; leaves = e ∙ rw a })

-- z stands at the start of the scratch
pub by_residual : (n : ℕ) (t : Settings) (norm : Float) (new_gradient gradient hessian step z : List Float) (r : Result (Unit {0}) Refusal) (hessian' : List Float) → z ≡ residual n new_gradient gradient hessian step
    → Updates (updated_by n t norm hessian step z) r hessian hessian' → Updates (updated n t norm new_gradient gradient hessian step) r hessian hessian'
unfolding updated
by_residual n t norm new_gradient gradient hessian step z r hessian' e u = rw e at u
