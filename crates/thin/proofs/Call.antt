-- The theorem of the thin calls: what a session crate's proof of one cites. README.md has the text of such a proof.
use mathlib.Core.Path.{◌≡◌, refl, sym, subst, ◌∙◌}
use Prim.Native.Nat.{ℕ, suc}
use mathlib.Core.List.{[], ◌∷◌, List}
use mathlib.Core.Option.{none, some}
use seplogic.Ra.Ura.{Ura}
use mir.Syntax.{Callee, Fn, Home, Local, local, named, Body}
use mir.Val.{vptr}
use base.Logic.{ent}
use base.Fml.{Lft, Fml, flft, fsep}
use prog.Wp.{Heap, Env, Calls, Loops, Closed, Tables}
use prog.Model.{Model}
use prog.Routine.{Routine, Env as Routines}
use types.Logic.{Logic}
use contract.Lifetimes.{Lfts, toks}
use contract.Running.{Running, tables}
unfoldable use contract.Running.{tables_of}
use types.Kit.{Item, Post, Seq, Step, step, Goal, ‵, raw, ◌⊛◌, ◌$◌, ◌∵◌, !, qed, by, move, use1, split, rewrite, allocs, runs}
use types.Run.{enter}
use sound.WpLaws.{fm_of}
use denote.RattleType.{Denots, Valss, owns, flat}
use denote.Laws.{valss}
use denote.Ref.{MutBor, MutRef}
use denote.Signature.{Slot, types_at}
use denote.Triple.End.{all, Fins, lasts_of}
use denote.Triple.Spec.{Meets, triple_of}
use denote.Triple.Statement.{Triple}
use denote.Triple.Table.{entered, cited}
use denote.Triple.Clauses.{Ended, Clauses, Lasts, at_exit, closing}
use denote.Exit.{yes}
use Rattle.thin.proofs.Locals.{Blocks, envOf, somes, AllTyped, allocated, passed}
use Rattle.thin.proofs.Kind.{Kind}
use Rattle.thin.proofs.Others.{Other, lifetimes, slots, params, spells, passed_on, Passed, AllFit, all_fit, vals_flat}
use Rattle.thin.proofs.Walk.{Session, After, τO, body_of, Ready, by_value, walks, thin, exits, Walk, thin_meets}

-- a function whose locals, and code whose text, is known by an equation
module _ {M : Type 1} {𝓤 : Ura M} {𝓛 : Logic 𝓤} {K : Type 0} {Γ : List (Item 𝓤)} where
  open 𝓛 use {H}

  at_locals : K → {l l' : List Local} {Kt : Env 𝓤 H → Goal 𝓤 H} → l ≡ l' → Step K 𝓛 Γ (allocs l' Kt) Γ (allocs l Kt)
  at_locals t {Kt = Kt} e = step (λ s. subst (λ (z : List Local). Seq K 𝓛 Γ (allocs z Kt)) (sym e) s)

  at_body : K → {C : Calls 𝓤 H} {Λ : Loops 𝓤 H} {E : Env 𝓤 H} {B B' : Body} {q : Post 𝓤 H} → B ≡ B' → Step K 𝓛 Γ (runs C Λ E B' q) Γ (runs C Λ E B q)
  at_body t {C} {Λ} {E} {q = q} e = step (λ s. subst (λ (Z : Body). Seq K 𝓛 Γ (runs C Λ E Z q)) (sym e) s)

module _ (J : Kind) (xs : List Other) where
  -- the other parameters in the two signatures: the thin call has one lifetime more, the session's, numbered 0
  abbrev n : ℕ
  n = lifetimes xs

  abbrev fs : List (Slot (suc n))
  fs = slots 1 xs (λ κs. κs.1)

  abbrev gs : List (Slot n)
  gs = slots 0 xs (λ κs. κs)

  abbrev pub thin_call : Ended
  thin_call = thin J n fs (all yes fs)

  abbrev pub value_call : Ended
  value_call = by_value J n gs (all yes gs)

  -- how the thin call's are passed on, and their machine values
  abbrev passed_at : (κs : Lfts (suc n)) → Denots (types_at fs κs) → List Passed
  passed_at κs a = passed_on (types_at fs κs) (params (suc n) κs 1 xs (λ κs. κs.1)) a

  abbrev vals_at : (κs : Lfts (suc n)) → Denots (types_at fs κs) → Valss (types_at fs κs)
  vals_at κs a = valss (types_at fs κs) (spells (types_at fs κs) (params (suc n) κs 1 xs (λ κs. κs.1))) a

  -- the other parameters are the same in both: their values, what they own, and what they leave. Only the lifetimes' numbers differ. Each map is the identity, each equation `refl`
  pub record Same : Type 2 where
    pub arg : (κ : Lft) (κs : Lfts n) → Denots (types_at fs (κ, κs)) → Denots (types_at gs κs)
    pub vals : (κ : Lft) (κs : Lfts n) → Valss (types_at fs (κ, κs)) → Valss (types_at gs κs)
    pub fins : (κ : Lft) (κs : Lfts n) (a : Denots (types_at fs (κ, κs))) → Fins κs gs (all yes gs) (arg κ κs a) → Fins (κ, κs) fs (all yes fs) a
    pub flat_is : (κ : Lft) (κs : Lfts n) (vs : Valss (types_at fs (κ, κs))) → flat (types_at fs (κ, κs)) vs ≡ flat (types_at gs κs) (vals κ κs vs)
    pub own_is : (κ : Lft) (κs : Lfts n) (a : Denots (types_at fs (κ, κs))) (vs : Valss (types_at fs (κ, κs))) → owns (types_at fs (κ, κs)) a vs ≡ owns (types_at gs κs) (arg κ κs a) (vals κ κs vs)
    pub last_is : (κ : Lft) (κs : Lfts n) (a : Denots (types_at fs (κ, κs))) (ws : Fins κs gs (all yes gs) (arg κ κs a)) → lasts_of κs gs (all yes gs) (arg κ κs a) ws ≡ lasts_of (κ, κs) fs (all yes fs) a (fins κ κs a ws)

  -- the function fn has the locals and the body of a thin call of f. Each equation is `refl`
  pub record Shape (fn : Fn) (f : Callee) (ho : Home) (ls : List Local) : Type 2 where
    pub locals : fn.locals ≡ local (τO J) ho ∷ ls
    pub body : (κs : Lfts (suc n)) (a : Denots (types_at fs κs)) → fn.body ≡ body_of J f (passed_at κs a)
    pub takes : (κs : Lfts (suc n)) (a : Denots (types_at fs κs)) (b o : ℕ) (bs : Blocks ls) → AllFit (passed_at κs a) → AllTyped (envOf ls bs) (vptr b o ∷ flat (types_at fs κs) (vals_at κs a))
    pub ready : {M : Type 1} (𝓤 : Ura M) (H : Heap 𝓤) (κs : Lfts (suc n)) (a : Denots (types_at fs κs)) (b o : ℕ) (h : Session J) (l : ℕ) (bs : Blocks ls)
        → Ready J 𝓤 H ((τO J, l) ∷ envOf ls bs) (none ∷ some (vptr b o) ∷ somes (flat (types_at fs κs) (vals_at κs a))) (passed_at κs a) b o h

  -- the contracts: what the thin call requires is what the call by value does, and what that ensures of its `After` the thin call ensures of the session at exit and the outcome. Where one predicate states both, each is `id⊢`
  pub record Agrees (same : Same) {M : Type 1} (𝓤 : Ura M) (cf : Clauses 𝓤 thin_call) (cg : Clauses 𝓤 value_call) : Type 2 where
    pub ghosts : (κ : Lft) (κs : Lfts n) (x : MutBor (Session J)) (a : Denots (types_at fs (κ, κs))) → (cf (κ, κs) (x, a)).ghost → (cg κs (x.now, same.arg κ κs a)).ghost
    pub asks : (κ : Lft) (κs : Lfts n) (x : MutBor (Session J)) (a : Denots (types_at fs (κ, κs))) (g : (cf (κ, κs) (x, a)).ghost) → ent 𝓤 ((cf (κ, κs) (x, a)).requires g) ((cg κs (x.now, same.arg κ κs a)).requires (ghosts κ κs x a g))
    pub says : (κ : Lft) (κs : Lfts n) (x : MutBor (Session J)) (a : Denots (types_at fs (κ, κs))) (g : (cf (κ, κs) (x, a)).ghost) (r : After J) (ws : Lasts value_call κs (x.now, same.arg κ κs a))
        → ent 𝓤 ((cg κs (x.now, same.arg κ κs a)).ensures (ghosts κ κs x a g) r (at_exit value_call κs (x.now, same.arg κ κs a) ws))
        ((cf (κ, κs) (x, a)).ensures g (J.outcome r) (at_exit thin_call (κ, κs) (x, a) (J.session r, same.fins κ κs a ws.1)))

  module _ (same : Same) {M : Type 1} {𝓤 : Ura M} (𝓛 : Logic 𝓤) (𝓣 : Tables 𝓤 𝓛.H) (cf : Clauses 𝓤 thin_call) (cg : Clauses 𝓤 value_call) (agrees : Agrees same 𝓤 cf cg)
      (fn : Fn) (f : Callee) (ho : Home) (ls : List Local) (shape : Shape fn f ho ls) (known : Triple 𝓤 (𝓣.C f) (triple_of 𝓛 value_call.signature (closing 𝓛 value_call cg))) where
    -- the function is entered and its locals are allocated; `walks` does the body, `exits` the rest
    open 𝓛 use {H}

    thin_walk : Walk J n fs (all yes fs) 𝓛 cf fn 𝓣 (λ κs. params (suc n) κs 1 xs (λ κs. κs.1))
    thin_walk κ κs q qs b o γ h a g are =
        let x : MutBor (Session J) = record { ref_ptr = (b, o); ghost_name = γ; now = h } in
        let Rs = types_at fs (κ, κs) in
        let ps = params (suc n) (κ, κs) 1 xs (λ κs. κs.1) in
        let vs : Valss Rs = vals_at (κ, κs) a in
        let a' : Denots (types_at gs κs) = same.arg κ κs a in
        let fit = all_fit Rs ps a are in
        qed 𝓛 (((‵ (flft κ q) ⊛ raw (toks 𝓛 n κs qs)) ⊛ ‵ (owns (types_at thin_call.signature.params (κ, κs)) (x, a) (vptr b o ∷ [], vs))) ∷ raw ((cf (κ, κs) (x, a)).requires g) ∷ []) ∵
        enter ! 𝓣.C 𝓣.Λ fn _ _ $ split ! $ rewrite ! 1 (λ (P : Fml). ‵ (fsep ((MutRef (named 0) κ J.the_session).own_val x (vptr b o ∷ [])) P)) (same.own_is κ κs a vs) refl $
        move ! (2 ∷ []) $ use1 𝓛 (raw ((cg κs (h, a')).requires (agrees.ghosts κ κs x a g))) (agrees.asks κ κs x a g) $ move ! (1 ∷ 2 ∷ 0 ∷ []) $
        at_locals ! shape.locals $ allocated ! (local (τO J) ho ∷ ls) (λ bs. passed ! (shape.takes (κ, κs) a b o bs.1 fit) $ at_body ! (shape.body (κ, κs) a) $
        walks J n gs (all yes gs) 𝓛 cg κs qs h a' (same.vals κ κs vs) (agrees.ghosts κ κs x a g) ! (none ∷ some (vptr b o) ∷ somes (flat Rs vs)) f (passed_at (κ, κs) a) (fm_of 𝓤 H 𝓛.laws 𝓣) known fit (vals_flat Rs ps a ∙ same.flat_is κ κs vs) (shape.ready 𝓤 H (κ, κs) a b o h bs.0 bs.1)
        (λ r ws. (cf (κ, κs) (x, a)).ensures g (J.outcome r) (at_exit thin_call (κ, κs) (x, a) (J.session r, same.fins κ κs a ws))) (λ r ws. agrees.says κ κs x a g r ws)
        (λ r ws is. rewrite ! 4 (λ (P : Fml). ‵ P) (same.last_is κ κs a ws) refl $ by ! (exits J n fs (all yes fs) 𝓛 cf κ κs q qs b o γ h a vs g r (same.fins κ κs a ws) is)))

  -- the function fn, whose key is k, is a thin call of f, whose contract is met: so is fn's
  pub thin_spec : (same : Same) (fn : Fn) (k f : Callee) {ho : Home} {ls : List Local} → Shape fn f ho ls → {M : Type 1} {𝓤 : Ura M} (𝓛 : Logic 𝓤) (𝓜 : Model 𝓤 𝓛.H) (𝓡 : Running 𝓤 𝓛.H 𝓜)
      (cf : Clauses 𝓤 thin_call) (cg : Clauses 𝓤 value_call) → Agrees same 𝓤 cf cg
      → (env : Routines) → Closed 𝓤 𝓛.H (tables 𝓤 𝓛.H 𝓜 𝓡 env).C (tables 𝓤 𝓛.H 𝓜 𝓡 env).Λ k fn
      → (r : Routine) → env f ≡ r → Meets 𝓛 value_call.signature (𝓡.run r) (closing 𝓛 value_call cg)
      → Meets 𝓛 thin_call.signature (𝓡.run (env k)) (closing 𝓛 thin_call cf)
  unfolding tables_of
  thin_spec same fn k f {ho} {ls} shape {𝓤 = 𝓤} 𝓛 𝓜 𝓡 cf cg agrees env closed r e met =
      let 𝓣 = tables_of 𝓤 𝓛.H 𝓜 (tables 𝓤 𝓛.H 𝓜 𝓡 env) in
      entered 𝓤 𝓛.H (triple_of 𝓛 thin_call.signature (closing 𝓛 thin_call cf)) (tables 𝓤 𝓛.H 𝓜 𝓡 env).C (tables 𝓤 𝓛.H 𝓜 𝓡 env).Λ k fn closed
      (thin_meets J n fs (all yes fs) 𝓛 cf fn 𝓣 (λ κs. params (suc n) κs 1 xs (λ κs. κs.1))
      (thin_walk same 𝓛 𝓣 cf cg agrees fn f ho ls shape
      (cited 𝓤 𝓛.H (triple_of 𝓛 value_call.signature (closing 𝓛 value_call cg)) 𝓜 𝓡 env f r e met)))
