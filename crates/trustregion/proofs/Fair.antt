-- Every trial of a run: accepted, it has a ratio above eta and, where a fall was predicted, a lower cost; and its radius stays within max_radius. Assumes nothing.
use mathlib.Core.Path.{◌≡◌, refl, sym, ◌∙◌, subst}
use mathlib.Core.Bool.{Bool, true, false, not, ◌&&◌}
use mathlib.Core.List.{List, [], ◌∷◌}
use lib.Dec.{T}
use lib.Ieee.{Float, binary64, fits, lt, le}
use lib.Ieee.Bits.{is_true}
use Rattle.float.specs.Numbers.{◌⊖◌, ◌⊗◌, finite, magnitude}
use Rattle.float.specs.Constants.{nought, two, quarter, three_quarters, ten_epsilons}
use Rattle.float.proofs.Order.{lt_real, le_lt_trans}
use Rattle.float.proofs.Signs.{sub_above, div_above, smaller_le}
use Rattle.float.proofs.Quarter.{quarter_within}
use Rattle.vectors.specs.Refusal.{refused, given}
use Rattle.vectors.proofs.Sizes.{both, each_holds}
use Rattle.kernels.specs.Kernel.{Kernel, positive}
use Rattle.trustregion.specs.Settings.{ranges, in_range}
use Rattle.offer.specs.State.{Promise}
use Rattle.trustregion.specs.Session.{Session, sound, awaiting, rho, next_radius, settled}
use Rattle.offer.specs.Run.{Trial, perform, run, Every}
use Rattle.trustregion.specs.Run.{Station, Call, proposed, judged, renewed, Reply, Done, Entry, on_proposal, on_judgement, on_renewal, respond, trials}
use Rattle.trustregion.specs.Demand3.{Fair, Within}
use Rattle.trustregion.specs.declared.settings.Settings.{Settings}
use Rattle.offer.proofs.Checks.{cond_elim}
use Rattle.offer.proofs.Runs.{perform_elim, run_keeps}
use Rattle.trustregion.proofs.Ends.{sound_tests}
use Rattle.trustregion.proofs.Answers.{Came, refuses, offers, judges, renews, alone}

true_is : (b : Bool) → b ≡ true → T b
true_is true e = tt
true_is false e = subst (λ (x : Bool). T (not x)) e tt

-- ---- what `sound` says of eta and max_radius

record Bounds (t : Settings) : Type 0 where
  eta : T (le nought t.eta)
  max_radius : T (lt nought t.max_radius)

bounds : (s : Session) → T (sound s) → Bounds s.settings
unfolding sound in_range positive
bounds s w =
    let t = s.settings in
    let e = each_holds (ranges t) (each_holds (sound_tests s) (is_true _ w)).0 in
    record {
      eta = true_is _ e.1.1.1.1.0;
      max_radius = true_is _ (both (finite t.max_radius) (lt nought t.max_radius) e.1.1.0).1;
    }

-- ---- one trial

accepted_falls : (eta f F m : Float) → T (le nought eta) → T (lt eta (rho f F m)) → T (lt nought (f ⊖ m)) → T (lt F f)
accepted_falls eta f F m e w fall = sub_above f F (div_above (f ⊖ F) (f ⊖ m) fall (le_lt_trans nought eta (rho f F m) e w))

next_within : (ratio norm radius bound : Float) → T (fits binary64 norm) → T (lt nought bound) → T (le radius bound) → T (le norm bound) → T (le (next_radius ratio norm radius bound) bound)
unfolding next_radius
next_within ratio norm radius bound f p h k =
    cond_elim Under (lt ratio quarter) (quarter_within norm bound f p k)
    (cond_elim Under (lt three_quarters ratio && le (magnitude (norm ⊖ radius)) ten_epsilons) (smaller_le bound (two ⊗ radius) (lt_real nought bound p).1) h)
  where
    Under : Float → Type 0
    Under x = T (le x bound)

-- both, of a trial under the settings t
pub record Sound_trial (t : Settings) (x : Trial) : Type 0 where
  pub fair : Fair t.eta x
  pub within : Within t.max_radius x

-- a call keeps the settings, and what it tells is sound
abbrev Tells : Settings → Reply → Type 0
Tells t (refused r) = Unit {0}
Tells t (given (proposed p x k)) = Unit {0}
Tells t (given (judged x)) = Sound_trial t x
Tells t (given renewed) = Unit {0}

record Good (t : Settings) (d : Done) : Type 0 where
  keeps : d.after.session.settings ≡ t
  tells : Tells t d.reply

same_promise : {p q : Promise} → given p ≡ given q → p ≡ q
same_promise e = cc

came_good : (kernel : Settings → Kernel) (s t : Station) (d e : Done) → Came kernel s t d e → Good s.session.settings d
unfolding on_proposal on_judgement on_renewal awaiting settled
came_good kernel s t d e (refuses r w v l m) = record { keeps = refl; tells = tt }
came_good kernel s t d e (offers n m z u i) = record { keeps = refl; tells = tt }
came_good kernel s t d e (judges F p o u) = record {
  keeps = refl;
  tells = record {
    fair = record {
      above_eta = λ a. true_is _ a;
      falls = λ a q i fall. accepted_falls s.session.settings.eta s.session.state.cost F p.value (bounds s.session u).eta (true_is _ a) (rw (same_promise (sym o ∙ i)) fall);
    };
    within = λ q i f h k. let same : p ≡ q = same_promise (sym o ∙ i) in
        next_within (rho s.session.state.cost F p.value) p.norm s.session.state.radius s.session.settings.max_radius (rw same f) (bounds s.session u).max_radius h (rw same k);
  };
}
came_good kernel s t d e (renews g H due) = record { keeps = refl; tells = tt }

call_good : (kernel : Settings → Kernel) (c : Call) (s : Station) → Good s.session.settings (perform (respond kernel) c s)
call_good kernel = perform_elim (respond kernel) (λ (s : Station) (d : Done). Good s.session.settings d) (λ v s d g. record { keeps = g.keeps; tells = g.tells }) (λ q s. came_good kernel s s _ _ (alone kernel q s))

-- ---- a run

module _ (P : Trial → Type 0) (t : Settings) (f : (x : Trial) → Sound_trial t x → P x) where
  trials_are : (es : List Entry) → Every (λ (e : Entry). Tells t e.reply) es → Every P (trials es)
  trials_are [] w = tt
  trials_are (e ∷ es) w = go e.reply w.0 (trials_are es w.1)
    where
      go : (r : Reply) → Tells t r → Every P (trials es) → Every P (trials (record { call = e.call; reply = r } ∷ es))
      go (refused r) w h = h
      go (given (proposed p x k)) w h = h
      go (given (judged x)) w h = (f x w, h)
      go (given renewed) w h = h

pub run_sound : (kernel : Settings → Kernel) (P : Settings → Trial → Type 0) → ((t : Settings) (x : Trial) → Sound_trial t x → P t x)
    → (cs : List Call) (s : Station) → Every (P s.session.settings) (trials (run (respond kernel) s cs))
run_sound kernel P f cs s =
    let t = s.session.settings in
    trials_are (P t) t (f t) (run (respond kernel) s cs)
    (run_keeps (respond kernel) (λ (x : Station). x.session.settings ≡ t) (Tells t) (λ c x e. let g = call_good kernel c x in (g.keeps ∙ e, subst (λ (u : Settings). Tells u (perform (respond kernel) c x).reply) e g.tells)) cs s refl).1
