-- A session of any kind: what is known of a sound one, and its proposal, which follows what was offered. Assumes nothing.
use mathlib.Core.Path.{◌≡◌, sym, ap, ◌∙◌}
use mathlib.Core.Bool.{Bool, true}
use mathlib.Core.List.{List, [], ◌∷◌}
use Prim.Native.Nat.{ℕ, ◌≤◌}
use native.Mathlib.Omega.{arith}
use lib.Dec.{leb}
use lib.Ieee.{Float}
use Rattle.std.specs.Prelude.{Result, Ok, Err}
use Rattle.vectors.specs.Refusal.{Answer, refused, given, unless, then}
use Rattle.vectors.specs.declared.refusal.Refusal.{Refusal}
use Rattle.vectors.specs.declared.refusal.Refusal.TheVariants.{Turn}
use Rattle.vectors.proofs.Sizes.{each_holds}
use Rattle.offer.specs.State.{in_phase, steady, promised, result_of}
use Rattle.offer.specs.Offer.{proposal_checks, Offer, stepping}
use Rattle.offer.specs.Session.{Kind, Lawful, turned, Proposal, chosen, sound, asking, awaiting, proposal}
use Rattle.offer.specs.Calls.{offering, Offers, saying, after_offer, Proposes}
use Rattle.offer.specs.declared.Offered.{Offered}
use Rattle.offer.specs.declared.session.Session.{Session}
use Rattle.offer.specs.declared.state.State.{State}
use Rattle.offer.specs.declared.state.Phase.{Phase}
use Rattle.offer.specs.declared.state.Phase.TheVariants.{Ready, AwaitingCost, AwaitingDerivatives}
use Rattle.offer.specs.declared.state.Said.TheVariants.{Proposed}
use Rattle.offer.proofs.Checks.{then_unless}
use Rattle.offer.proofs.Counts.{count_small}
use Rattle.offer.proofs.Offers.{offers_kernel}

-- a session that awaits no cost is out of turn
pub out_of_turn : (phase : Phase) {r : Refusal} → Err r ≡ result_of (promised phase) → r ≡ Turn
out_of_turn Ready e = cc
out_of_turn AwaitingDerivatives e = cc
out_of_turn (AwaitingCost value norm) e = let z : ◌≡◌ {A = ℕ} 0 1 = cc in absurd (omega arith)

module _ {S : Type 0} (kind : Kind S) where
  -- ---- a sound session

  -- what it was asked
  abbrev pub sound_tests : Session S → List Bool
  sound_tests s = kind.in_range s.settings ∷ steady s.state ∷ leb s.state.count (kind.allowance s.settings) ∷ []

  module _ (laws : Lawful kind) where
    -- its count is small
    pub sound_small : (s : Session S) → sound kind s ≡ true → s.state.count ≤ 1000
    sound_small s e =
        let t = each_holds (sound_tests s) e in
        count_small (kind.allowance s.settings) s.state.count (laws.allowable s.settings t.0) t.1.1.0

    -- ---- the proposal

    module _ (s : Session S) (n : ℕ) (point gradient hessian step trial scratch : List Float) where
      abbrev pub keeping : Answer Offer → Answer (Proposal S)
      keeping = then (λ (o : Offer). given (awaiting kind s n gradient hessian o))

      abbrev pub offered : Answer Offer
      offered = offering (asking kind s) n point gradient hessian step trial scratch

      abbrev pub proposed : Answer (Proposal S)
      proposed = proposal kind (chosen kind) s n point gradient hessian step trial scratch

      -- the chosen kernel is run
      pub by_kernel : offered ≡ unless (proposal_checks (sound kind s) s.state n point gradient hessian step trial scratch) (stepping (chosen kind s.settings) (kind.allowance s.settings) s.state n point gradient hessian)
      by_kernel = offers_kernel (asking kind s) n point gradient hessian step trial scratch (λ e. laws.known s.settings (each_holds (sound_tests s) e).0)

      pub follows : proposed ≡ keeping offered
      follows =
          sym (ap keeping by_kernel
          ∙ then_unless (λ (o : Offer). given (awaiting kind s n gradient hessian o)) (proposal_checks (sound kind s) s.state n point gradient hessian step trial scratch)
          (stepping (chosen kind s.settings) (kind.allowance s.settings) s.state n point gradient hessian))

      module _ (step' trial' scratch' : List Float) where
        by_offer : (found : Result Offered Refusal) → Offers n gradient hessian offered found step trial scratch step' trial' scratch' → Proposes proposed s step trial scratch (after_offer kind s found) step' trial' scratch'
        by_offer found offers = rw follows (go offered offers)
          where
            go : (a : Answer Offer) → Offers n gradient hessian a found step trial scratch step' trial' scratch' → Proposes (keeping a) s step trial scratch (after_offer kind s found) step' trial' scratch'
            go (refused r) o = record { says = ap (after_offer kind s) o.says; leaves_step = o.leaves_step; leaves_trial = o.leaves_trial; leaves_scratch = o.leaves_scratch }
            go (given x) o = record { says = ap (after_offer kind s) o.says; leaves_step = o.leaves_step; leaves_trial = o.leaves_trial; leaves_scratch = o.leaves_scratch }

        pub proposes_not : (r : Refusal) → Offers n gradient hessian offered (Err r) step trial scratch step' trial' scratch' → Proposes proposed s step trial scratch (saying s (Err r)) step' trial' scratch'
        proposes_not r offers = by_offer (Err r) offers

        pub proposes : (o : Offered) → Offers n gradient hessian offered (Ok o) step trial scratch step' trial' scratch'
            → (value : Float) → value ≡ kind.promise s.state.cost o.slope o.curvature → (state : State) → state ≡ in_phase (AwaitingCost value o.norm) s.state
            → Proposes proposed s step trial scratch (saying (turned s state) (Ok (Proposed o.passes))) step' trial' scratch'
        proposes o offers value is state e = rw (e, is) (by_offer (Ok o) offers)
