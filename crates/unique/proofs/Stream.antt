-- crates/stream: each contract has one result; those of what reads the room, while the room has what is asked for. Assumes nothing.
use mathlib.Core.Path.{◌≡◌, refl, sym, subst}
use mathlib.Core.Logic.{◌⊎◌, inl, inr}
use mathlib.Core.Bool.{true}
use mathlib.Core.List.{List, [], ◌∷◌}
use Prim.Native.Nat.{ℕ, suc, ◌+◌, ◌-◌, ◌*◌, ◌≤◌, ◌<◌}
use native.Mathlib.Nat.{le_antisymm, lt_of_not-le, pow-le-pow_right}
use native.Mathlib.Omega.{arith}
use lib.Dec.{ltb}
use lib.ListN.{length}
use lib.Ieee.{Float}
use Rattle.io.specs.Digits.{last_digits, IsDigitCount}
use Rattle.stream.specs.Output.{Put, PutWhole}
use Rattle.stream.specs.Pieces.{Piece, text, whole, PutPiece, Puts, none, one}
use Rattle.stream.specs.Input.{Next, next_by, Fills}
use Rattle.stream.specs.declared.input.Reader.{Reader}
use Rattle.stream.specs.declared.input.Over.{Over}
use Rattle.stream.specs.declared.output.Page.{Page}
use Rattle.std.specs.Prelude.{Option, Result}
use Rattle.unique.proofs.Law.{Line, equation, unique, UniqueIn, unique_in, alike, ◌&◌}
use Rattle.stream.specs.contracts as stream

-- a whole number has one count of digits
no_fewer : {n k l : ℕ} → IsDigitCount 10 1 n k → IsDigitCount 10 1 n l → k < l → ⊥
no_fewer {n} {k} {l} p q h = omega (arith, p.0, p.1, q.2 (omega (arith, p.0)), pow-le-pow_right {n = 10} (omega arith) {i = k} {j = l - 1} (omega arith))

not_above : {k l : ℕ} → (l < k → ⊥) → k ≤ l
not_above {k} {l} h = omega (arith, lt_of_not-le {n = suc l} {m = k} h)

count : {n k l : ℕ} → IsDigitCount 10 1 n k → IsDigitCount 10 1 n l → k ≡ l
count p q = le_antisymm (not_above (no_fewer q p)) (not_above (no_fewer p q))

pub input : {i j : Reader} → i.room ≡ j.room → i.at ≡ j.at → i.end ≡ j.end → i ≡ j
input e f g = λ k. record { room = e k; at = f k; end = g k }

-- two puts on the same page leave the same
page : {p q : Page} → p.bytes ≡ q.bytes → p.at ≡ q.at → p ≡ q
page e f = λ i. record { bytes = e i; at = f i }

module _ {p p₁ p₂ : Page} where
  put : {t : List ℕ} → Put t p p₁ → Put t p p₂ → p₁ ≡ p₂
  put q r = page (alike q.paper r.paper) (alike q.place r.place)

  put_whole : {n : ℕ} → PutWhole n p p₁ → PutWhole n p p₂ → p₁ ≡ p₂
  put_whole {n} q r = put q.put (subst (λ k. Put (last_digits 10 k n) p p₂) (count r.fewest q.fewest) r.put)

-- pieces that are put one after another: each begins where the one before ended
put_piece : (c : Piece) (p p₁ p₂ : Page) → PutPiece c p p₁ → PutPiece c p p₂ → p₁ ≡ p₂
put_piece (text t) p p₁ p₂ q r = put q r
put_piece (whole n) p p₁ p₂ q r = put_whole q r

from : (cs : List Piece) {p p₀ p₁ p₂ : Page} → p ≡ p₀ → Puts cs p p₁ → Puts cs p₀ p₂ → p₁ ≡ p₂
from [] e none none = e
from (c ∷ cs) {p} {p₀} e (one {page₁ = m} q qs) (one {page₁ = n} r rs) = from cs (put_piece c p m n q (subst (λ (b : Page). PutPiece c b n) (sym e) r)) qs rs

pub puts : (cs : List Piece) {p p₁ p₂ : Page} → Puts cs p p₁ → Puts cs p p₂ → p₁ ≡ p₂
puts cs = from cs refl

pub table : List Line
table =
    unique stream.output.Page.new.ended (λ M 𝓤. stream.output.Page.new.spec) (λ w κs a g r. refl) (λ κs a r r₂ s s₂ p q. (page (alike p.paper q.paper) (alike p.place q.place), refl))
    ∷ unique stream.output.Page.flush.ended (λ M 𝓤. stream.output.Page.flush.spec) (λ w κs a g r. refl) (λ κs a r r₂ s s₂ p q. (refl, λ i. page (alike p.paper q.paper) (alike p.place q.place) i & tt))
    ∷ unique stream.output.Page.put_text.ended (λ M 𝓤. stream.output.Page.put_text.spec) (λ w κs a g r. refl) (λ κs a r r₂ s s₂ p q. (refl, λ i. put p q i & tt & tt))
    ∷ unique stream.output.Page.put_number.ended (λ M 𝓤. stream.output.Page.put_number.spec) (λ w κs a g r. refl) (λ κs a r r₂ s s₂ p q. (refl, λ i. put p q i & tt & tt))
    ∷ unique stream.output.Page.put_whole.ended (λ M 𝓤. stream.output.Page.put_whole.spec) (λ w κs a g r. refl) (λ κs a r r₂ s s₂ p q. (refl, λ i. put_whole p q i & tt & tt))
    ∷ unique stream.output.Page.put_blank.ended (λ M 𝓤. stream.output.Page.put_blank.spec) (λ w κs a g r. refl) (λ κs a r r₂ s s₂ p q. (refl, λ i. put p q i & tt))
    ∷ unique stream.output.Page.put_line_end.ended (λ M 𝓤. stream.output.Page.put_line_end.spec) (λ w κs a g r. refl) (λ κs a r r₂ s s₂ p q. (refl, λ i. put p q i & tt))
    ∷ unique stream.output.Page.put_refused.ended (λ M 𝓤. stream.output.Page.put_refused.spec) (λ w κs a g r. refl) (λ κs a r r₂ s s₂ p q. (refl, λ i. puts _ p q i & tt & tt))
    ∷ unique stream.output.Page.put_named.ended (λ M 𝓤. stream.output.Page.put_named.spec) (λ w κs a g r. refl) (λ κs a r r₂ s s₂ p q. (refl, λ i. puts _ p q i & tt & tt & tt))
    ∷ unique stream.output.Page.put_list.ended (λ M 𝓤. stream.output.Page.put_list.spec) (λ w κs a g r. refl) (λ κs a r r₂ s s₂ p q. (refl, λ i. puts _ p q i & tt & tt & tt))
    ∷ equation stream.input.Reader.mark.ended (λ M 𝓤. stream.input.Reader.mark.spec) (λ w κs a g r. refl) (λ κs a s s₂. refl)
    ∷ unique stream.input.Reader.go_to.ended (λ M 𝓤. stream.input.Reader.go_to.spec) (λ w κs a g r. refl) (λ κs a r r₂ s s₂ p q. (refl, λ i. alike p q i & tt & tt))
    ∷ unique stream.input.Reader.new.ended (λ M 𝓤. stream.input.Reader.new.spec) (λ w κs a g r. refl) (λ κs a r r₂ s s₂ p q. (input (alike p.kept q.kept) (alike p.place q.place) (alike p.last q.last), refl))
    ∷ []

-- ---- what reads the room: one result while the room has what is asked for, and so the system is not asked

module _ (i i₁ i₂ : Reader) where
  next : (w₁ w₂ : Result ℕ Over) → ltb i.at i.end ≡ true → Next i i₁ w₁ → Next i i₂ w₂ → (w₁ ≡ w₂) × (i₁ ≡ i₂)
  unfolding Next next_by
  next w₁ w₂ e p q =
      let a = rw e at p in let b = rw e at q in (alike a.found b.found, input (alike a.kept b.kept) (alike a.place b.place) (alike a.last b.last))

pub next_word : UniqueIn stream.input.Reader.next_word.ended (λ κs a r r₂ s s₂. ltb a.0.now.at a.0.now.end ≡ true → (r ≡ r₂) × (s ≡ s₂)) (λ M 𝓤. stream.input.Reader.next_word.spec)
next_word = unique_in (λ w κs a g r. refl) (λ κs a r r₂ s s₂ p q e. let d = next _ _ _ r r₂ e p q in (d.0, λ i. d.1 i & tt))

-- also where there is no place to put them
abbrev At_hand : Reader → List Float → ℕ → Type 0
At_hand i out count = (length out < count) ⊎ ((count ≤ length out) × (i.at + 8 * count ≤ i.end))

filled : {i i₁ i₂ : Reader} {out out₁ out₂ : List Float} {count : ℕ} {r₁ r₂ : Option (Unit {0})}
    → At_hand i out count → Fills i out count i₁ out₁ r₁ → Fills i out count i₂ out₂ r₂ → (r₁ ≡ r₂) × (i₁ ≡ i₂) × (out₁ ≡ out₂)
filled (inl h) p q = let a = p.too_long h in let b = q.too_long h in (alike a.refused b.refused, alike a.kept b.kept, alike a.left b.left)
filled (inr h) p q =
    let a = p.whole h.0 h.1 in let b = q.whole h.0 h.1 in
    (alike a.all b.all, input (alike a.kept b.kept) (alike a.place b.place) (alike a.last b.last), alike a.read b.read)

pub numbers : UniqueIn stream.input.Reader.numbers.ended (λ κs a r r₂ s s₂. At_hand a.0.now a.1.0.now a.1.1.0 → (r ≡ r₂) × (s ≡ s₂)) (λ M 𝓤. stream.input.Reader.numbers.spec)
numbers = unique_in (λ w κs a g r. refl) (λ κs a r r₂ s s₂ p q h. let d = filled h p q in (d.0, λ i. d.1 i & d.2 i & tt & tt))
