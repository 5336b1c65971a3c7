-- One result for one contract. Assumes nothing.
-- "Any pair of results satisfying that statement is shown equal." A line of a table in the other files says it of a public function f, by the names `f.ended` and `f.spec`: f's signature, and f's
-- contract as the checker makes it of the source, the one that f's theorem is about. So nothing of a contract is written again here, and no line can speak of another.
use mathlib.Core.Path.{◌≡◌, sym, ◌∙◌, subst}
use seplogic.Ra.Ura.{Ura}
use base.Logic.{SProp, ent, id⊢, via, sep, ex, ex_e, ex_i, mono_r, fst∗, snd∗}
use prog.Memory.{Memory}
use prog.Routine.{Routine}
use types.Logic.{Logic, sem}
use contract.Monad.{Fun, fact, fact_i, fact_use}
use contract.Lifetimes.{Lfts}
use denote.Triple.Entry.{Args, Res}
use denote.Triple.Spec.{Spec}
use denote.Triple.Clauses.{Ended, Lasts, lasts}
use borrow.Fn.World.{World, Pr}

module _ (T : Ended) where
  -- a contract with the signature T, in every model of the logic; and in one of them
  abbrev pub Contract : Type 2
  Contract = (M : Type 1) (𝓤 : Ura M) (𝓛 : Logic 𝓤) → (Memory → SProp 𝓤) → (Routine → Fun 𝓤) → Spec 𝓤 T.signature

  abbrev pub at : Contract → (w : World) → Spec w.𝓤 T.signature
  at c w = c w.M w.𝓤 w.𝓛 w.𝓜.mem w.𝓡.returns

  -- a call: its lifetimes, its arguments and its result. `Lasts T κs a` is what is left at its end in each thing that was lent to be changed; what was lent to be read is as it was, by its type
  abbrev pub Lifetimes : Type 0
  Lifetimes = Lfts T.signature.lifetimes

  abbrev pub Arguments : Lifetimes → Type 0
  Arguments κs = Args T.signature κs

  abbrev pub Result : Lifetimes → Type 0
  Result κs = Res T.signature κs

  -- a plain fact of a call; and what is to follow for two results, each with what is left
  abbrev pub Fact : Type 1
  Fact = (κs : Lifetimes) (a : Arguments κs) → Result κs → Lasts T κs a → Type 0

  abbrev pub Sameness : Type 1
  Sameness = (κs : Lifetimes) (a : Arguments κs) → (r r₂ : Result κs) → (s s₂ : Lasts T κs a) → Type 0

  abbrev pub equal : Sameness
  equal κs a r r₂ s s₂ = (r ≡ r₂) × (s ≡ s₂)

  -- s is what is left; and with it the fact holds
  abbrev pub Leaves : (w : World) (κs : Lifetimes) (a : Arguments κs) → Lasts T κs a → Pr w
  Leaves w κs a s = sem w.𝓛 (lasts T κs a s)

  abbrev pub Said : Fact → (w : World) (κs : Lifetimes) → Arguments κs → Result κs → Pr w
  Said says w κs a r = ex w.𝓤 (λ (s : Lasts T κs a). sep w.𝓤 (Leaves w κs a s) (fact w.𝓤 (says κs a r s)))

  -- any two that have the fact, for the same arguments, are the same
  abbrev pub One : Fact → Sameness → Type 0
  One says Same = (κs : Lifetimes) (a : Arguments κs) (r r₂ : Result κs) (s s₂ : Lasts T κs a) → says κs a r s → says κs a r₂ s₂ → Same κs a r r₂ s s₂

  -- The law: whoever has what the contract ensures knows a fact of the result and of what is left, and one result has it.
  pub record UniqueIn (Same : Sameness) (c : Contract) : Type 2 where
    pub says : Fact
    pub states : (w : World) (κs : Lifetimes) (a : Arguments κs) (g : (at c w κs a).ghost) (r : Result κs) → ent w.𝓤 ((at c w κs a).ensures g r) (Said says w κs a r)
    pub one : One says Same

  abbrev pub Unique : Contract → Type 2
  Unique = UniqueIn equal

  -- ---- the two forms of the contracts here: of one clause, and of two

  -- what the contract ensures is this assertion, word for word
  abbrev pub Is : Contract → ((w : World) (κs : Lifetimes) → Arguments κs → Result κs → Pr w) → Type 2
  Is c P = (w : World) (κs : Lifetimes) (a : Arguments κs) (g : (at c w κs a).ghost) (r : Result κs) → (at c w κs a).ensures g r ≡ P w κs a r

  module _ (φ ψ : Fact) where
    abbrev pub both : Fact
    both κs a r s = φ κs a r s × ψ κs a r s

    abbrev pub Said_twice : (w : World) (κs : Lifetimes) → Arguments κs → Result κs → Pr w
    Said_twice w κs a r = ex w.𝓤 (λ (s : Lasts T κs a). sep w.𝓤 (Leaves w κs a s) (sep w.𝓤 (fact w.𝓤 (φ κs a r s)) (fact w.𝓤 (ψ κs a r s))))

    module _ (w : World) (κs : Lifetimes) (a : Arguments κs) (r : Result κs) where
      joined : (s : Lasts T κs a) → ent w.𝓤 (sep w.𝓤 (fact w.𝓤 (φ κs a r s)) (fact w.𝓤 (ψ κs a r s))) (fact w.𝓤 (both κs a r s))
      joined s =
          fact_use w.𝓤 (φ κs a r s) (fst∗ w.𝓤 (fact w.𝓤 (φ κs a r s)) (fact w.𝓤 (ψ κs a r s))) (λ p.
          fact_use w.𝓤 (ψ κs a r s) (snd∗ w.𝓤 (fact w.𝓤 (φ κs a r s)) (fact w.𝓤 (ψ κs a r s))) (λ q. fact_i w.𝓤 (both κs a r s) _ (p, q)))

      said_both : ent w.𝓤 (Said_twice w κs a r) (Said both w κs a r)
      said_both = ex_e w.𝓤 _ (λ s.
          via w.𝓤 (sep w.𝓤 (Leaves w κs a s) (fact w.𝓤 (both κs a r s))) (mono_r w.𝓤 (Leaves w κs a s) (joined s))
          (ex_i w.𝓤 (λ (s : Lasts T κs a). sep w.𝓤 (Leaves w κs a s) (fact w.𝓤 (both κs a r s))) s))

  -- ---- what follows of a fact

  -- whoever has what the contract ensures knows this fact of the result and of what is left
  abbrev pub States : Contract → Fact → Type 2
  States c φ = (w : World) (κs : Lifetimes) (a : Arguments κs) (g : (at c w κs a).ghost) (r : Result κs) → ent w.𝓤 ((at c w κs a).ensures g r) (Said φ w κs a r)

  pub said_then : (φ ψ : Fact) → ((κs : Lifetimes) (a : Arguments κs) (r : Result κs) (s : Lasts T κs a) → φ κs a r s → ψ κs a r s) → (w : World) (κs : Lifetimes) (a : Arguments κs) (r : Result κs) → ent w.𝓤 (Said φ w κs a r) (Said ψ w κs a r)
  said_then φ ψ h w κs a r = ex_e w.𝓤 _ (λ s.
      via w.𝓤 (sep w.𝓤 (Leaves w κs a s) (fact w.𝓤 (ψ κs a r s)))
      (mono_r w.𝓤 (Leaves w κs a s) (fact_use w.𝓤 (φ κs a r s) (id⊢ w.𝓤 (fact w.𝓤 (φ κs a r s))) (λ p. fact_i w.𝓤 (ψ κs a r s) _ (h κs a r s p))))
      (ex_i w.𝓤 (λ (s : Lasts T κs a). sep w.𝓤 (Leaves w κs a s) (fact w.𝓤 (ψ κs a r s))) s))

-- ---- how a line is shown

-- both are d
pub alike : {A : Type 0} {x y d : A} → x ≡ d → y ≡ d → x ≡ y
alike p q = p ∙ sym q

-- What is left has an entry for each parameter: `tt` for one that cannot be changed.
abbrev pub ◌&◌ : {A B : Type 0} → A → B → A × B
x & y = (x, y)

infixr 20 ◌&◌
module _ {T : Ended} {c : Contract T} where
  pub unique_in : {says : Fact T} {Same : Sameness T} → Is T c (Said T says) → One T says Same → UniqueIn T Same c
  unique_in {says} h o = record { says = says; states = λ w κs a g r. subst (λ P. ent w.𝓤 ((at T c w κs a).ensures g r) P) (h w κs a g r) (id⊢ w.𝓤 _); one = o }

-- a line of a table: a function's contract, and that it has one result
pub data Line : Type 2 where
  line : (T : Ended) (c : Contract T) → Unique T c → Line

module _ (T : Ended) (c : Contract T) where
  pub unique : {says : Fact T} → Is T c (Said T says) → One T says (equal T) → Line
  unique h o = line T c (unique_in h o)

  pub unique_of_two : {φ ψ : Fact T} → Is T c (Said_twice T φ ψ) → One T (both T φ ψ) (equal T) → Line
  unique_of_two {φ} {ψ} h o = line T c (record { says = both T φ ψ; states = λ w κs a g r. subst (λ P. ent w.𝓤 P (Said T (both T φ ψ) w κs a r)) (sym (h w κs a g r)) (said_both T φ ψ w κs a r); one = o })

  -- a contract that says what the result equals, where nothing is lent to be changed
  pub equation : {d : (κs : Lifetimes T) → Arguments T κs → Result T κs} → Is T c (Said T (λ κs a r s. r ≡ d κs a)) → ((κs : Lifetimes T) (a : Arguments T κs) (s s₂ : Lasts T κs a) → s ≡ s₂) → Line
  equation h o = unique h (λ κs a r r₂ s s₂ p q. (alike p q, o κs a s s₂))

  -- what follows from what a contract says, and so from the contract
  pub states : {φ : Fact T} (ψ : Fact T) → Is T c (Said T φ) → ((κs : Lifetimes T) (a : Arguments T κs) (r : Result T κs) (s : Lasts T κs a) → φ κs a r s → ψ κs a r s) → States T c ψ
  states {φ} ψ e h = λ w κs a g r. subst (λ P. ent w.𝓤 P (Said T ψ w κs a r)) (sym (e w κs a g r)) (said_then T φ ψ h w κs a r)
