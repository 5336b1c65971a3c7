-- Laws of check lists and of what follows an answer, over any property of answers. Assumes nothing.
use mathlib.Core.Path.{◌≡◌, refl}
use mathlib.Core.Bool.{Bool, true, false, not, cond}
use mathlib.Core.List.{List, [], ◌∷◌}
use Prim.Native.Nat.{ℕ}
use native.Mathlib.Omega.{arith}
use lib.Dec.{T}
use lib.ListN.{length}
use lib.Ieee.{Float}
use Rattle.float.specs.Constants.{nought}
use Rattle.vectors.specs.Vector.{zeros}
use Rattle.vectors.specs.Refusal.{Answer, refused, given, Check, unless, judged, then, untouched_by, scratch_after}
use Rattle.offer.specs.State.{result_of}
use Rattle.vectors.specs.declared.refusal.Refusal.{Refusal}
use Rattle.std.specs.Prelude.{Ok, Err}
use Rattle.vectors.proofs.Vectors.{length_tab}

-- no check of the list applies
abbrev pub None : List Check → Type 0
None [] = Unit {0}
None (c ∷ cs) = T (not c.applies) × None cs

-- none applies where the verdict of the code is that all passed
pub passed_none : (cs : List Check) → judged cs ≡ Ok tt → None cs
passed_none [] e = tt
passed_none (c ∷ cs) e = go c.applies e (passed_none cs)
  where
    go : (b : Bool) → cond b (Err c.refusal) (judged cs) ≡ Ok tt → (judged cs ≡ Ok tt → None cs) → T (not b) × None cs
    go true e f = let z : ◌≡◌ {A = ℕ} 0 1 = cc in absurd (omega arith)
    go false e f = (tt, f e)

-- what holds of every refusal, and of the answer where no check applies, holds of the checked answer
pub unless_elim : {A : Type 0} (P : Answer A → Type 0) (cs : List Check) (a : Answer A) → ((r : Refusal) → P (refused r)) → (None cs → P a) → P (unless cs a)
unless_elim P [] a bad good = good tt
unless_elim P (c ∷ cs) a bad good = go c.applies (λ v. unless_elim P cs a bad (λ w. good (v, w)))
  where
    go : (b : Bool) → (T (not b) → P (unless cs a)) → P (cond b (refused c.refusal) (unless cs a))
    go true k = bad c.refusal
    go false k = k tt

-- where no check applies, it is the answer
pub unless_none : {A : Type 0} (cs : List Check) (a : Answer A) → None cs → unless cs a ≡ a
unless_none [] a w = refl
unless_none (c ∷ cs) a w = go c.applies w.0 (unless_none cs a w.1)
  where
    go : (b : Bool) → T (not b) → unless cs a ≡ a → cond b (refused c.refusal) (unless cs a) ≡ a
    go true v e = absurd v
    go false v e = e

-- the checked answers are one where the answers are, should no check apply
pub unless_same : {A : Type 0} (cs : List Check) (a b : Answer A) → (None cs → a ≡ b) → unless cs a ≡ unless cs b
unless_same [] a b e = e tt
unless_same (c ∷ cs) a b e = go c.applies (λ v. unless_same cs a b (λ w. e (v, w)))
  where
    go : (t : Bool) → (T (not t) → unless cs a ≡ unless cs b) → cond t (refused c.refusal) (unless cs a) ≡ cond t (refused c.refusal) (unless cs b)
    go true k = refl
    go false k = k tt

-- what follows a checked answer is checked alike
pub then_unless : {A B : Type 0} (f : A → Answer B) (cs : List Check) (a : Answer A) → then f (unless cs a) ≡ unless cs (then f a)
then_unless f [] a = refl
then_unless f (c ∷ cs) a = go c.applies (then_unless f cs a)
  where
    go : (t : Bool) → then f (unless cs a) ≡ unless cs (then f a) → then f (cond t (refused c.refusal) (unless cs a)) ≡ cond t (refused c.refusal) (unless cs (then f a))
    go true e = refl
    go false e = e

pub then_elim : {A B : Type 0} (P : Answer B → Type 0) (f : A → Answer B) (a : Answer A) → ((r : Refusal) → P (refused r)) → ((x : A) → a ≡ given x → P (f x)) → P (then f a)
then_elim P f (refused r) bad good = bad r
then_elim P f (given x) bad good = good x refl

-- a refusal gives nothing
pub clash : {A : Type 0} {r : Refusal} {a : A} → refused r ≡ given a → ⊥
clash e = let z : ◌≡◌ {A = ℕ} 0 1 = cc in omega arith

pub cond_elim : {A : Type 0} (P : A → Type 0) (b : Bool) {x y : A} → P x → P y → P (cond b x y)
cond_elim P true p q = p
cond_elim P false p q = q

pub not_not : (b : Bool) → T (not (not b)) → T b
not_not true w = tt
not_not false w = w

pub false_is : (b : Bool) → T (not b) → b ≡ false
false_is true w = absurd w
false_is false w = refl

-- a call leaves a scratch as long as it was
zeros_length : (n : ℕ) → length (zeros n) ≡ n
unfolding zeros
zeros_length n = length_tab n (λ i. nought)

pub scratch_length : {A : Type 0} (a : Answer A) (v : List Float) → length (scratch_after a v) ≡ length v
scratch_length (refused r) v = cond_elim (λ (x : List Float). length x ≡ length v) (untouched_by r) {x = v} {y = zeros (length v)} refl (zeros_length (length v))
scratch_length (given x) v = zeros_length (length v)

-- ---- what the code makes of an answer

pub is_refused : {A : Type 0} (a : Answer A) {r : Refusal} → Err r ≡ result_of a → a ≡ refused r
is_refused (refused x) e = cc
is_refused (given x) e = let z : ◌≡◌ {A = ℕ} 0 1 = cc in absurd (omega arith)

pub is_given : {A : Type 0} (a : Answer A) {x : A} → Ok x ≡ result_of a → a ≡ given x
is_given (refused x) e = let z : ◌≡◌ {A = ℕ} 0 1 = cc in absurd (omega arith)
is_given (given x) e = cc
