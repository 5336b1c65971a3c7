-- How a step is offered, over the values. Assumes nothing.
use mathlib.Core.Path.{◌≡◌, refl, sym, ◌∙◌, ap}
use mathlib.Core.Bool.{Bool, true, false, cond, not}
use mathlib.Core.List.{List, [], ◌∷◌, ◌++◌}
use Prim.Native.Nat.{ℕ, ◌+◌, ◌*◌, ◌-◌, ◌≤◌}
use native.Mathlib.Omega.{arith}
use lib.Dec.{eqb}
use lib.ListN.{length, take, drop}
use lib.Seq.{take-take, length-take-le}
use lib.Ieee.{Float, eq}
use lib.Ieee.Bits.{is_true}
use borrow.Author.Tests.{eq-eqb}
use Rattle.std.specs.Prelude.{Result, Ok, Err}
use Rattle.float.specs.Constants.{nought}
use Rattle.vectors.specs.Vector.{plus, zeros, all_finite, norm}
use Rattle.vectors.specs.Slots.{slot, Puts}
use Rattle.vectors.specs.Refusal.{Answer, refused, given, Check, unless, judged, then, all_hold, size, sized, room, scratch_after}
use Rattle.kernels.specs.Kernel.{Made, made, Proper, Laid}
use Rattle.kernels.specs.Choice.{known, kernel, door}
use Rattle.vectors.specs.declared.refusal.Refusal.{Refusal}
use Rattle.vectors.specs.declared.refusal.Refusal.TheVariants.{Size, Setting, Radius, Range, Hidden}
use Rattle.kernels.specs.declared.kernel.Stepped.{Stepped}
use Rattle.vectors.proofs.Slots.{length_slot}
use Rattle.vectors.proofs.Sizes.{size_test}
use Rattle.kernels.proofs.Choices.{kernel_proper}
use Rattle.kernels.proofs.Kernels.{unless_passed, unless_failed, early, slot_laid, cleared_laid}
use Rattle.offer.specs.Offer.{all_sized, proposal_checks, Offer, offered, offer, step_checks, stepping}
use Rattle.offer.specs.Calls.{replaced, offering, measured, Offers}
use Rattle.offer.specs.declared.Asked.{Asked}
use Rattle.offer.specs.declared.Offered.{Offered}
use Rattle.offer.proofs.Lengths.{Lent, lent_true, copied}
use Rattle.offer.proofs.Checks.{None, passed_none, unless_elim, unless_same, not_not}

-- ---- a step that was laid out

-- a step of n numbers and the trial behind it, as parts of the scratch
module _ (n : ℕ) (w : List Float) where
  pub first_part : take (n - 0) (drop 0 w) ≡ slot w n 0
  unfolding slot
  first_part =
      let none : 0 * n ≡ 0 = omega arith in
      let long : n - 0 ≡ n = omega arith in
      rw (none, long)

  pub second_part : take (n + n - n) (drop n w) ≡ slot w n 1
  unfolding slot
  second_part =
      let one : 1 * n ≡ n = omega arith in
      let long : n + n - n ≡ n = omega arith in
      rw (one, long)

-- the step, in what is used of the scratch
slot_part : (w : List Float) (n : ℕ) → slot (take (n + n) w) n 0 ≡ slot w n 0
unfolding slot
slot_part w n = let none : 0 * n ≡ 0 = omega arith in rw none (take-take n (n + n) w (omega arith))

-- v is the step, read once the trial was laid beside it
pub step_copied : (n : ℕ) (w w₁ v step step' : List Float) → slot w₁ n 0 ≡ slot w n 0 → length w₁ ≡ length w → v ≡ slot w₁ n 0 → n + n ≤ length w → length step ≡ n → step' ≡ replaced v step → step' ≡ slot w n 0
step_copied n w w₁ v step step' same l first room at-step a =
    let long : length v ≡ n = ap length first ∙ length_slot w₁ n 0 (omega arith) in
    a ∙ copied v step (at-step ∙ sym long) ∙ first ∙ same

-- the trial was laid beside it
module _ (n passes : ℕ) (point g H step trial w w₁ : List Float) (laid : Puts w n 1 (plus n (slot w n 0) point) w₁) (l : length w₁ ≡ length w) where
  module _ (u w' : List Float) (is : u ≡ slot w₁ n 1) (z : w' ≡ zeros (length w₁)) where
    pub refuses : all_finite u ≡ false → Offers n g H (offer n point (made passes (slot w n 0))) (Err Range) step trial w step trial w'
    unfolding offer
    refuses t =
        let bad : all_finite (plus n (slot w n 0) point) ≡ false = sym (ap all_finite (is ∙ laid 1)) ∙ t in
        rw bad (record { says = refl; leaves_step = refl; leaves_trial = refl; leaves_scratch = z ∙ ap zeros l })

    pub hands_out : (v₀ v₁ step' trial' : List Float) (o : Offered) → all_finite u ≡ true → v₀ ≡ slot w₁ n 0 → v₁ ≡ slot w₁ n 1 → n + n ≤ length w → length step ≡ n → length trial ≡ n
        → step' ≡ replaced v₀ step → trial' ≡ replaced v₁ trial → o ≡ measured n g H passes step'
        → Offers n g H (offer n point (made passes (slot w n 0))) (Ok o) step trial w step' trial' w'
    unfolding offer
    hands_out v₀ v₁ step' trial' o t first second room at-step at-trial a b says =
        let good : all_finite (plus n (slot w n 0) point) ≡ true = sym (ap all_finite (is ∙ laid 1)) ∙ t in
        let long₁ : length v₁ ≡ n = ap length second ∙ length_slot w₁ n 1 (omega arith) in
        let stepped : step' ≡ slot w n 0 = step_copied n w w₁ v₀ step step' (laid 0) l first room at-step a in
        rw good (record {
          says = ap Ok (says ∙ ap (measured n g H passes) stepped);
          leaves_step = stepped;
          leaves_trial = b ∙ copied v₁ trial (at-trial ∙ sym long₁) ∙ second ∙ laid 1;
          leaves_scratch = z ∙ ap zeros l;
        })

-- ---- the whole call

-- of the scratch only the length counts, and where the used numbers of it are cleared, so are the others
scratch_whole : (n : ℕ) (point : List Float) (m : Made) (u rest w : List Float) → zeros (length u) ++ rest ≡ zeros (length w) → scratch_after (offer n point m) u ++ rest ≡ scratch_after (offer n point m) w
unfolding offer
scratch_whole n point m u rest w e = pick (not (all_finite (plus n m.step point))) where
  pick : (b : Bool) → scratch_after (cond b (refused Range) (given (offered n point m))) u ++ rest ≡ scratch_after (cond b (refused Range) (given (offered n point m))) w
  pick true = e
  pick false = e

given_long : (n : ℕ) (b c : Bool) (a : Answer Made) (m : Made) → Proper n a → cond b (refused Size) (cond c (refused Setting) a) ≡ given m → length m.step ≡ n
given_long n true c a m p e = absurd (let z : ◌≡◌ {A = ℕ} 0 1 = cc in omega arith)
given_long n false true a m p e = absurd (let z : ◌≡◌ {A = ℕ} 0 1 = cc in omega arith)
given_long n false false (refused r) m p e = absurd (let z : ◌≡◌ {A = ℕ} 0 1 = cc in omega arith)
given_long n false false (given x) m p e = let same : m ≡ x = cc in rw same p

module _ (asked : Asked) (n : ℕ) (point g H step trial w : List Float) where
  abbrev checks : List Check
  checks = proposal_checks asked.sound asked.state n point g H step trial w

  abbrev radius : Float
  radius = asked.state.radius

  abbrev opened : Answer Made
  opened = door asked.choice n radius g H w

  door_long : (m : Made) → opened ≡ given m → length m.step ≡ n
  unfolding door
  door_long m e =
      given_long n (not (all_hold (size n ∷ sized (n * n) H ∷ sized n g ∷ sized (room n) w ∷ []))) (not (known asked.choice))
      (kernel asked.choice n radius g H) m (kernel_proper asked.choice n radius g H) e

  sizes_lent : None checks → Lent n (length point) (length g) (length H) (length step) (length trial) (length w)
  sizes_lent none = lent_true n (length point) (length g) (length H) (length step) (length trial) (length w) (is_true _ (not_not (all_sized n point g H step trial w) none.0))

  -- by the chosen kernel itself, which a session's definitions speak of
  pub offers_kernel : (asked.sound ≡ true → known asked.choice ≡ true) → offering asked n point g H step trial w ≡ unless checks (stepping (kernel asked.choice) asked.allowance asked.state n point g H)
  unfolding offering door
  offers_kernel k = unless_same checks (unless (step_checks asked.allowance asked.state) (then (offer n point) opened)) (stepping (kernel asked.choice) asked.allowance asked.state n point g H) by_kernel where
    by_kernel : None checks → unless (step_checks asked.allowance asked.state) (then (offer n point) opened) ≡ stepping (kernel asked.choice) asked.allowance asked.state n point g H
    by_kernel none =
        let l = sizes_lent none in
        let named = k (is_true _ (not_not asked.sound none.1.0)) in
        rw (size_test l.square, eq-eqb (length H) (n * n) l.square.long, eq-eqb (length g) n l.gradient, eq-eqb (length w) (room n) l.scratch, named)

  -- what holds of every refusal, and where the sizes are right of every answer, holds of this one
  pub offered_elim : (P : Answer Offer → Type 0) → ((r : Refusal) → P (refused r)) → (Lent n (length point) (length g) (length H) (length step) (length trial) (length w) → (a : Answer Offer) → P a)
      → P (offering asked n point g H step trial w)
  unfolding offering
  offered_elim P bad good = unless_elim P checks (unless (step_checks asked.allowance asked.state) (then (offer n point) opened)) bad (λ none. good (sizes_lent none) (unless (step_checks asked.allowance asked.state) (then (offer n point) opened)))

  pub no_checks : (r : Refusal) → judged checks ≡ Err r → Offers n g H (offering asked n point g H step trial w) (Err r) step trial w step trial w
  unfolding offering
  no_checks r e =
      rw (unless_failed checks (unless (step_checks asked.allowance asked.state) (then (offer n point) opened)) r e)
      (record { says = refl; leaves_step = refl; leaves_trial = refl; leaves_scratch = rw (early checks r (refl, (refl, (refl, (refl, tt)))) e) })

  module _ (e : judged checks ≡ Ok tt) where
    pub lent : Lent n (length point) (length g) (length H) (length step) (length trial) (length w)
    lent = sizes_lent (passed_none checks e)

    checked : offering asked n point g H step trial w ≡ unless (step_checks asked.allowance asked.state) (then (offer n point) opened)
    unfolding offering
    checked = unless_passed checks _ e

    pub no_radius : eq radius nought ≡ true → Offers n g H (offering asked n point g H step trial w) (Err Radius) step trial w step trial w
    no_radius z = rw (checked, z) (record { says = refl; leaves_step = refl; leaves_trial = refl; leaves_scratch = refl })

    pub too_hidden : eq radius nought ≡ false → eqb asked.state.count asked.allowance ≡ true → Offers n g H (offering asked n point g H step trial w) (Err Hidden) step trial w step trial w
    too_hidden far z = rw (checked, far, z) (record { says = refl; leaves_step = refl; leaves_trial = refl; leaves_scratch = refl })

    module _ (far : eq radius nought ≡ false) (shown : eqb asked.state.count asked.allowance ≡ false) (w₁ : List Float) where
      pub no_step : (r : Refusal) → Laid opened (Err r) w w₁ → Offers n g H (offering asked n point g H step trial w) (Err r) step trial w step trial w₁
      no_step r laid = rw (checked, far, shown) (go opened laid) where
        go : (a : Answer Made) → Laid a (Err r) w w₁ → Offers n g H (then (offer n point) a) (Err r) step trial w step trial w₁
        go (refused x) h = let same : r ≡ x = (let says : ◌≡◌ {A = Result Stepped Refusal} (Err r) (Err x) = h.says in cc) in record { says = ap Err same; leaves_step = refl; leaves_trial = refl; leaves_scratch = h.lays }
        go (given m) h = absurd (let says : ◌≡◌ {A = Result Stepped Refusal} (Err r) (Ok (record { passes = m.passes; norm = norm m.step })) = h.says in let z : ◌≡◌ {A = ℕ} 0 1 = cc in omega arith)

      -- a step was laid out
      module _ (found : Stepped) (laid : Laid opened (Ok found) w w₁) where
        step_found : (m : Made) → Laid (given m) (Ok found) w w₁ → found ≡ record { passes = m.passes; norm = norm m.step }
        step_found m h = let says : ◌≡◌ {A = Result Stepped Refusal} (Ok found) (Ok (record { passes = m.passes; norm = norm m.step })) = h.says in cc

        none_found : {A : Type 0} (x : Refusal) → Laid (refused x) (Ok found) w w₁ → A
        none_found x h = absurd (let says : ◌≡◌ {A = Result Stepped Refusal} (Ok found) (Err x) = h.says in let z : ◌≡◌ {A = ℕ} 0 1 = cc in omega arith)

        -- it stands in what is used of the scratch
        first_laid : (m : Made) → Laid (given m) (Ok found) w w₁ → length m.step ≡ n → slot (take (n + n) w₁) n 0 ≡ m.step
        first_laid m h size = slot_part w₁ n ∙ ap (λ (v : List Float). slot v n 0) h.lays ∙ slot_laid m.step _ n size

        -- and what the kernel said is its norm
        pub norm_laid : found.norm ≡ norm (slot (take (n + n) w₁) n 0)
        norm_laid = go opened laid door_long where
          go : (a : Answer Made) → Laid a (Ok found) w w₁ → ((m : Made) → a ≡ given m → length m.step ≡ n) → found.norm ≡ norm (slot (take (n + n) w₁) n 0)
          go (refused x) h sized = none_found x h
          go (given m) h sized = (λ i. (step_found m h i).norm) ∙ ap norm (sym (first_laid m h (sized m refl)))

        pub step_made : (r : Result Offered Refusal) (step' trial' u' : List Float) → length w₁ ≡ length w
            → Offers n g H (offer n point (made found.passes (slot (take (n + n) w₁) n 0))) r step trial (take (n + n) w₁) step' trial' u'
            → Offers n g H (offering asked n point g H step trial w) r step trial w step' trial' (u' ++ drop (n + n) w₁)
        step_made r step' trial' u' l o = rw (checked, far, shown) (go opened laid door_long) where
          go : (a : Answer Made) → Laid a (Ok found) w w₁ → ((m : Made) → a ≡ given m → length m.step ≡ n) → Offers n g H (then (offer n point) a) r step trial w step' trial' (u' ++ drop (n + n) w₁)
          go (refused x) h sized = none_found x h
          go (given m) h sized =
              let count : found.passes ≡ m.passes = (λ i. (step_found m h i).passes) in
              let size : length m.step ≡ n = sized m refl in
              let room : n + n ≤ length w = omega (arith, lent.scratch) in
              let first : slot (take (n + n) w₁) n 0 ≡ m.step = first_laid m h size in
              let used : length (take (n + n) w₁) ≡ n + n = length-take-le (n + n) w₁ (omega arith) in
              let behind : zeros (length (take (n + n) w₁)) ++ drop (n + n) w₁ ≡ zeros (length w) =
              ap (λ (k : ℕ). zeros k ++ drop (n + n) w₁) used ∙ ap (λ (v : List Float). zeros (n + n) ++ drop (n + n) v) h.lays ∙ cleared_laid m.step (n + n) (length w) (omega arith) room in
              let o' : Offers n g H (offer n point m) r step trial (take (n + n) w₁) step' trial' u' = rw (count, first) at o in
              record {
                says = o'.says;
                leaves_step = o'.leaves_step;
                leaves_trial = o'.leaves_trial;
                leaves_scratch = ap (λ (v : List Float). v ++ drop (n + n) w₁) o'.leaves_scratch ∙ scratch_whole n point m (take (n + n) w₁) (drop (n + n) w₁) w behind;
              }
