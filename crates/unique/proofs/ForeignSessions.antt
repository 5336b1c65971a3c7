-- crates/foreign_sessions: each contract has one result. Assumes nothing.
use mathlib.Core.Path.{◌≡◌, refl, sym, ◌∙◌, ap}
use mathlib.Core.List.{List, [], ◌∷◌}
use Rattle.foreign_sessions.specs.Lists.{Told, Driven}
use Rattle.unique.proofs.Law.{Line, unique, alike, ◌&◌}
use Rattle.unique.proofs.Offer as offer
use Rattle.unique.proofs.TrustRegion as trustregion
use Rattle.unique.proofs.Sr1 as sr1
use Rattle.foreign_sessions.specs.contracts.trust_region as trust_region
use Rattle.foreign_sessions.specs.contracts.sr1_session as sr1_session

-- what is kept in the lists is one, where what the call by value returns is
kept : {Session After : Type 0} {session : Session} {keep : After → Told} {Call Call₂ : Session → After → Type 0} {t t₂ : Told} (p : Driven session keep Call t) (q : Driven session keep Call₂ t₂) → p.after ≡ q.after → t ≡ t₂
kept {keep = keep} p q e = p.keeps ∙ ap keep e ∙ sym q.keeps

pub table : List Line
table =
    unique trust_region.mboyaxin_trustregion_start.ended (λ M 𝓤. trust_region.mboyaxin_trustregion_start.spec) (λ w κs a g r. refl) (λ κs a r r₂ s s₂ p q. let t = alike p q in ((λ i. (t i).number), λ i. (t i).words & (t i).numbers & tt & tt))
    ∷ unique trust_region.mboyaxin_trustregion_propose.ended (λ M 𝓤. trust_region.mboyaxin_trustregion_propose.spec) (λ w κs a g r. refl) (λ κs a r r₂ s s₂ p q. let e = offer.proposes p.calls q.calls in let t = kept p q e.0 in ((λ i. (t i).number), λ i. (t i).words & (t i).numbers & tt & tt & tt & tt & tt & e.1 i & e.2 i & e.3 i & tt))
    ∷ unique trust_region.mboyaxin_trustregion_answer_cost.ended (λ M 𝓤. trust_region.mboyaxin_trustregion_answer_cost.spec) (λ w κs a g r. refl) (λ κs a r r₂ s s₂ p q. let e = trustregion.judges p.calls q.calls in let t = kept p q e.0 in ((λ i. (t i).number), λ i. (t i).words & (t i).numbers & tt & tt & tt & e.1 i & tt & tt))
    ∷ unique trust_region.mboyaxin_trustregion_answer_derivatives.ended (λ M 𝓤. trust_region.mboyaxin_trustregion_answer_derivatives.spec) (λ w κs a g r. refl) (λ κs a r r₂ s s₂ p q. let e = trustregion.renews p.calls q.calls in let t = kept p q e.0 in ((λ i. (t i).number), λ i. (t i).words & (t i).numbers & tt & tt & tt & tt & e.1 i & e.2 i & tt))
    ∷ unique sr1_session.mboyaxin_sr1_start.ended (λ M 𝓤. sr1_session.mboyaxin_sr1_start.spec) (λ w κs a g r. refl) (λ κs a r r₂ s s₂ p q. let t = alike p q in ((λ i. (t i).number), λ i. (t i).words & (t i).numbers & tt & tt))
    ∷ unique sr1_session.mboyaxin_sr1_propose.ended (λ M 𝓤. sr1_session.mboyaxin_sr1_propose.spec) (λ w κs a g r. refl) (λ κs a r r₂ s s₂ p q. let e = sr1.proposes p.calls q.calls in let t = kept p q e.0 in ((λ i. (t i).number), λ i. (t i).words & (t i).numbers & tt & tt & tt & tt & tt & e.1 i & e.2 i & e.3 i & tt))
    ∷ unique sr1_session.mboyaxin_sr1_answer.ended (λ M 𝓤. sr1_session.mboyaxin_sr1_answer.spec) (λ w κs a g r. refl) (λ κs a r r₂ s s₂ p q. let e = sr1.judges p.calls q.calls in let t = kept p q e.0 in ((λ i. (t i).number), λ i. (t i).words & (t i).numbers & tt & tt & tt & tt & e.1 i & tt & tt & e.2 i & e.3 i & e.4 i & tt))
    ∷ []
