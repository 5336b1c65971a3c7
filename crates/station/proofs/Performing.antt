-- What the calls of the code do at a station is what the run of the session's definitions has there. Assumes nothing.
use mathlib.Core.List.{List}
use Prim.Native.Nat.{ℕ}
use lib.Ieee.{Float}
use Rattle.vectors.specs.Refusal.{Answer}
use Rattle.offer.specs.Run as Run
use Rattle.offer.specs.Run.{Vectors, Does}
use Rattle.offer.specs.State.{Outcome}
use Rattle.offer.specs.declared.state.State.{State}
use Rattle.trustregion.specs.Settings as trustregion
use Rattle.trustregion.specs.Session as trustregion-session
use Rattle.trustregion.specs.Run as TrustRegion
use Rattle.trustregion.specs.Calls as trustregion-calls
use Rattle.trustregion.proofs.Calls as trustregion-run
use Rattle.sr1.specs.Settings as sr1
use Rattle.sr1.specs.Session as sr1-session
use Rattle.sr1.specs.Run as Sr1
use Rattle.sr1.specs.Calls as sr1-calls
use Rattle.sr1.proofs.Calls as sr1-run
use Rattle.float.specs.Constants.{nought}
use Rattle.event.specs.Event.{said}
use Rattle.station.specs.Happening.{at, happened, Performed}
use Rattle.station.specs.TrustRegion as trust-region
use Rattle.station.specs.Sr1 as sr1-kind
use Rattle.station.specs.Station.{told}
use Rattle.station.specs.declared.Session.{Session}
use Rattle.station.specs.declared.Session.TheVariants as Kind

-- of either kind
performed : {S A : Type 0} (either : S → Session) (state : S → State) (outcome : Answer A → Outcome) (d : Run.Done S A) (o : Outcome) (s : S) (v : Vectors) (F : Float)
    → Does outcome d o s v → Performed (happened either state (outcome d.reply) F d.after) (record { session = either s; event = said o F (state s).radius }) v
performed either state outcome d o s v F p = record {
  says = λ i. said (p.says i) F (state (p.leaves i).session).radius;
  leaves = λ i. at (either (p.leaves i).session) (p.leaves i).lent;
}

-- ---- each call of the code: it leaves the session s', and says o

module _ (s s' : trustregion-session.Session) (o : Outcome) (v : Vectors) (n : ℕ) where
  pub trust_region_proposed : {step trial scratch : List Float}
      → trustregion-calls.Proposes (TrustRegion.proposal_at trustregion.chosen (record { session = s; lent = v }) n) s v.step v.trial v.scratch (record { session = s'; outcome = o }) step trial scratch
      → Performed (trust-region.requested s v (TrustRegion.propose n)) (told (Kind.TrustRegion s') o nought) (record { point = v.point; gradient = v.gradient; hessian = v.hessian; step = step; trial = trial; scratch = scratch })
  unfolding trust-region.requested
  trust_region_proposed p =
      performed Kind.TrustRegion trust-region.state_of TrustRegion.outcome _ o s' _ nought (trustregion-run.run_proposes trustregion.chosen (record { session = s; lent = v }) n (record { session = s'; outcome = o }) _ _ _ p)

  pub trust_region_judged : (F : Float) {point : List Float}
      → trustregion-calls.Judges (TrustRegion.judgement_at (record { session = s; lent = v }) n F) s v.point (record { session = s'; outcome = o }) point
      → Performed (trust-region.requested s v (TrustRegion.cost n F)) (told (Kind.TrustRegion s') o F) (record { point = point; gradient = v.gradient; hessian = v.hessian; step = v.step; trial = v.trial; scratch = v.scratch })
  unfolding trust-region.requested
  trust_region_judged F p =
      performed Kind.TrustRegion trust-region.state_of TrustRegion.outcome _ o s' _ F (trustregion-run.run_judges trustregion.chosen (record { session = s; lent = v }) n F (record { session = s'; outcome = o }) _ p)

  pub trust_region_renewed : (G H : List Float) {gradient hessian : List Float}
      → trustregion-calls.Renews (TrustRegion.renewal_at (record { session = s; lent = v }) n G H) s v.gradient v.hessian (record { session = s'; outcome = o }) gradient hessian
      → Performed (trust-region.requested s v (TrustRegion.derivatives n G H)) (told (Kind.TrustRegion s') o nought) (record { point = v.point; gradient = gradient; hessian = hessian; step = v.step; trial = v.trial; scratch = v.scratch })
  unfolding trust-region.requested
  trust_region_renewed G H p =
      performed Kind.TrustRegion trust-region.state_of TrustRegion.outcome _ o s' _ nought (trustregion-run.run_renews trustregion.chosen (record { session = s; lent = v }) n G H (record { session = s'; outcome = o }) _ _ p)

module _ (s s' : sr1-session.Session) (o : Outcome) (v : Vectors) (n : ℕ) where
  pub sr1_proposed : {step trial scratch : List Float}
      → sr1-calls.Proposes (Sr1.proposal_at sr1.chosen (record { session = s; lent = v }) n) s v.step v.trial v.scratch (record { session = s'; outcome = o }) step trial scratch
      → Performed (sr1-kind.requested s v (Sr1.propose n)) (told (Kind.Sr1 s') o nought) (record { point = v.point; gradient = v.gradient; hessian = v.hessian; step = step; trial = trial; scratch = scratch })
  unfolding sr1-kind.requested
  sr1_proposed p = performed Kind.Sr1 sr1-kind.state_of Sr1.outcome _ o s' _ nought (sr1-run.run_proposes sr1.chosen (record { session = s; lent = v }) n (record { session = s'; outcome = o }) _ _ _ p)

  pub sr1_judged : (F : Float) (G : List Float) {point gradient hessian scratch : List Float}
      → sr1-calls.Judges (Sr1.judgement_at (record { session = s; lent = v }) n F G) s v.point v.gradient v.hessian v.scratch (record { session = s'; outcome = o }) point gradient hessian scratch
      → Performed (sr1-kind.requested s v (Sr1.answer n F G)) (told (Kind.Sr1 s') o F) (record { point = point; gradient = gradient; hessian = hessian; step = v.step; trial = v.trial; scratch = scratch })
  unfolding sr1-kind.requested
  sr1_judged F G p = performed Kind.Sr1 sr1-kind.state_of Sr1.outcome _ o s' _ F (sr1-run.run_judges sr1.chosen (record { session = s; lent = v }) n F G (record { session = s'; outcome = o }) _ _ _ _ p)
