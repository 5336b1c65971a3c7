-- Lemmas that docs/PORT.md and docs/LANDINGS.md name, over the types that the code has now: what a kernel or an elimination comes to, with what it leaves on a refusal too. Assumes nothing.
use Rattle.std.proofs.Common.{◌≡◌, refl, sym, ap, subst, ◌∙◌, ℕ, ◌+◌, ◌-◌, ◌<◌, Bool, true, false, cond, List, ◌++◌, length}
use Rattle.std.specs.Prelude.{Result, Ok, Err}
use lib.Ieee.{Float, lt}
use borrow.Author.Tests.{eq-eqb, ne_eqb}
use Rattle.float.specs.Constants.{nought}
use Rattle.vectors.specs.Vector.{zeros, weighted}
use Rattle.vectors.specs.Slots.{slot}
use Rattle.vectors.specs.Refusal.{Answer, refused, given, stands_for}
use Rattle.vectors.specs.declared.refusal.Refusal.{Refusal}
use Rattle.vectors.specs.declared.refusal.Refusal.TheVariants.{Pivot}
use Rattle.kernels.specs.Kernel.{Made, made, handed_out, Proper, Laid, laid_out, stepped, Lent}
use Rattle.kernels.specs.declared.kernel.Stepped.{Stepped}
use Rattle.kernels.specs.Inverse.{Rows, column, columns}
use Rattle.kernels.specs.CauchyPoint.{cauchy_point}
use Rattle.kernels.specs.Dogleg.{between, dogleg, dogleg_step, newton, unconstrained}
use Rattle.kernels.specs.Textbook.{textbook_step, textbook_dogleg}
use Rattle.kernels.specs.Steihaug.{steihaug}
use Rattle.kernels.specs.Choice.{known, kernel, door}
use Rattle.kernels.specs.declared.choice.Choice.{Choice}
use Rattle.kernels.proofs.Choices.{opened}
use Rattle.kernels.proofs.Rows.{columns_more}
use Rattle.kernels.proofs.Doglegs.{dogleg_proper}

-- ---- an elimination that left R

pub found_none : (r : Result (Unit {0}) Refusal) (R : Rows) (o : Answer Rows) → stands_for r R ≡ o → (e : Refusal) → r ≡ Err e → refused e ≡ o
found_none (Ok u) R o h e k = cc
found_none (Err f) R o h e k = cc

pub found_rows : (r : Result (Unit {0}) Refusal) (R : Rows) (o : Answer Rows) → stands_for r R ≡ o → (u : Unit {0}) → r ≡ Ok u → given R ≡ o
found_rows (Ok v) R o h u k = h
found_rows (Err f) R o h u k = cc

module _ (bound : Float) (n j : ℕ) (R : Rows) (all : Answer Rows) (l : j < n) (inv : columns bound n (n - j) j R ≡ all) where
  pub columns_stop : (S : Rows) (r : Result (Unit {0}) Refusal) → stands_for r S ≡ column bound n R j → (e : Refusal) → r ≡ Err e → refused e ≡ all
  columns_stop S r h e k = columns_more bound n j R all (refused e) l inv (found_none r S (column bound n R j) h e k)

  pub columns_go : (S : Rows) (r : Result (Unit {0}) Refusal) → stands_for r S ≡ column bound n R j → (u : Unit {0}) → r ≡ Ok u → columns bound n (n - (j + 1)) (j + 1) S ≡ all
  columns_go S r h u k = columns_more bound n j R all (given S) l inv (found_rows r S (column bound n R j) h u k)

-- ---- a kernel's answer, by a scratch of the same length

laid_length : (n : ℕ) (a : Answer Made) (w₁ w : List Float) → Proper n a → length w₁ ≡ length w → laid_out a w₁ ≡ laid_out a w
laid_length n (refused r) w₁ w p l = rw p (ap zeros l)
laid_length n (given m) w₁ w p l = ap (λ (k : ℕ). m.step ++ zeros (k - length m.step)) l

laid_same : (n : ℕ) (a b : Answer Made) (r : Result Stepped Refusal) (w₁ w w' : List Float) → Proper n b → a ≡ b → length w₁ ≡ length w → Laid a r w₁ w' → Laid b r w w'
laid_same n a b r w₁ w w' p e l h = record { says = h.says ∙ ap stepped e; lays = h.lays ∙ ap (λ (x : Answer Made). laid_out x w₁) e ∙ laid_length n b w₁ w p l }

module _ (step : ℕ → Float → (pb pu : List Float) → List Float) (n : ℕ) (radius : Float) (g H w : List Float) where
  pub between_none : (len : ℕ) (w' : List Float) → refused Pivot ≡ newton n g H → len ≡ length w → w' ≡ zeros len → Laid (between step n radius g H) (Err Pivot) w w'
  unfolding between
  between_none len w' e l z = rw (← e) (record { says = refl; lays = z ∙ ap zeros l })

  pub between_laid : (pb w₁ w₂ : List Float) (r : Result Stepped Refusal) → Proper n (between step n radius g H) → given pb ≡ newton n g H → slot w₁ n 0 ≡ step n radius pb (unconstrained n g H) → length w₁ ≡ length w
      → Laid (handed_out (made 0 (slot w₁ n 0))) r w₁ w₂ → Laid (between step n radius g H) r w w₂
  unfolding between
  between_laid pb w₁ w₂ r proper e a l p =
      let made_of : handed_out (made 0 (slot w₁ n 0)) ≡ between step n radius g H = rw (← e) (ap (λ (v : List Float). handed_out (made 0 v)) a) in
      laid_same n (handed_out (made 0 (slot w₁ n 0))) (between step n radius g H) r w₁ w w₂ proper made_of l p

module _ (n : ℕ) (radius : Float) (g H w : List Float) where
  pub dogleg_none : (len : ℕ) (w' : List Float) → refused Pivot ≡ newton n g H → len ≡ length w → w' ≡ zeros len → Laid (dogleg n radius g H) (Err Pivot) w w'
  unfolding dogleg
  dogleg_none = between_none dogleg_step n radius g H w

  pub dogleg_laid : (pb w₁ w₂ : List Float) (r : Result Stepped Refusal) → given pb ≡ newton n g H → slot w₁ n 0 ≡ dogleg_step n radius pb (unconstrained n g H) → length w₁ ≡ length w
      → Laid (handed_out (made 0 (slot w₁ n 0))) r w₁ w₂ → Laid (dogleg n radius g H) r w w₂
  unfolding dogleg
  dogleg_laid pb w₁ w₂ r = between_laid dogleg_step n radius g H w pb w₁ w₂ r (dogleg_proper n radius g H)

-- ---- the textbook's dogleg, by the curvature

module _ (n : ℕ) (radius curvature : Float) (g H w w' : List Float) (r : Result Stepped Refusal) (e : curvature ≡ weighted n g H g) where
  by_curvature : (b : Bool) → lt nought curvature ≡ b → Laid (cond b (between textbook_step n radius g H) (cauchy_point n radius g H)) r w w' → Laid (textbook_dogleg n radius g H) r w w'
  unfolding textbook_dogleg
  by_curvature b t h = subst (λ (x : Bool). Laid (cond x (between textbook_step n radius g H) (cauchy_point n radius g H)) r w w') (sym t ∙ ap (lt nought) e) h

  pub as_cauchys : lt nought curvature ≡ false → Laid (cauchy_point n radius g H) r w w' → Laid (textbook_dogleg n radius g H) r w w'
  as_cauchys t h = by_curvature false t h

  pub by_legs : lt nought curvature ≡ true → Laid (between textbook_step n radius g H) r w w' → Laid (textbook_dogleg n radius g H) r w w'
  by_legs t h = by_curvature true t h

-- ---- which kernel a number names, what it laid, and what the sessions' door then laid

module _ (c : Choice) (n : ℕ) (radius : Float) (g H : List Float) (r : Result Stepped Refusal) (w w' : List Float) where
  abbrev Chosen : Type 0
  Chosen = Laid (kernel c n radius g H) r w w'

  pub first : c.kernel ≡ 1 → Laid (cauchy_point n radius g H) r w w' → Chosen
  unfolding kernel
  first a h = rw (eq-eqb c.kernel 1 a) h

  pub second : (c.kernel ≡ 1 → ⊥) → c.kernel ≡ 2 → c.dogleg ≡ 1 → Laid (dogleg n radius g H) r w w' → Chosen
  unfolding kernel
  second a b d h = rw (ne_eqb c.kernel 1 a, eq-eqb c.kernel 2 b, eq-eqb c.dogleg 1 d) h

  pub second_anew : (c.kernel ≡ 1 → ⊥) → c.kernel ≡ 2 → (c.dogleg ≡ 1 → ⊥) → Laid (textbook_dogleg n radius g H) r w w' → Chosen
  unfolding kernel
  second_anew a b d h = rw (ne_eqb c.kernel 1 a, eq-eqb c.kernel 2 b, ne_eqb c.dogleg 1 d) h

  pub third : (c.kernel ≡ 1 → ⊥) → (c.kernel ≡ 2 → ⊥) → Laid (steihaug c.epsilon c.limit n radius g H) r w w' → Chosen
  unfolding kernel
  third a b h = rw (ne_eqb c.kernel 1 a, ne_eqb c.kernel 2 b) h

  pub through : {s : ℕ} → Lent n (length H) (length g) s (length w) → known c ≡ true → Chosen → Laid (door c n radius g H w) r w w'
  through l k h = rw (opened c n radius g H w l k) h
