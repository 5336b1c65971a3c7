-- A kind of session, as the walk of a thin call takes it: the session's type, the outcome's, and the type `After` of what a call by value returns. A session crate names its kind once, out of the laws that are generated with its types (README.md has the text).
use mathlib.Core.Path.{◌≡◌, refl}
use mathlib.Core.List.{[], ◌∷◌, List}
use seplogic.Ra.Ura.{Ura}
use lib.Dec.{T}
use mir.Syntax.{Sym, Ty, ty_struct, tnil, tcons}
use mir.Val.{Val, WT, has_ty, vstruct, vcons, vnil}
use types.Logic.{Logic}
use denote.RattleType.{RattleType}
use denote.Laws.{Makes, Tells, Is}
use denote.Memory.{lone}
use denote.Struct.Struct.{Plains, layout}
use denote.Struct.Declared as Struct
use denote.Struct.Laws as StructLaws
use denote.Enum.Enum.{Plainss, Few}
use denote.Enum.Declared as Enum
use denote.Enum.Laws as EnumLaws

-- a type of plain data: it is one machine value, and owns nothing but facts, so that a copy of it is had for nothing. A copy is what the call by value is given
pub record Datum (R : RattleType) : Type 2 where
  pub mir : Ty
  pub one : R.mir ≡ mir ∷ []
  pub val : R.Denot → Val
  pub tells : Tells R (Is R) (λ x. val x ∷ [])
  pub typed : {M : Type 1} {𝓤 : Ura M} (𝓛 : Logic 𝓤) → (x : R.Denot) (v : Val) → Is R x (v ∷ []) → T (has_ty mir v) × WT v
  pub makes : {M : Type 1} {𝓤 : Ura M} (𝓛 : Logic 𝓤) → Makes 𝓛 R (Is R)

-- a declared struct, as a session is, and a declared enum, as an outcome is, whatever plain structs and enums they hold
abbrev pub a_struct : (D : Struct.Declared) (L : StructLaws.Laws D) → Plains (Struct.fields D) → Datum (Struct.row D)
a_struct D L pl = record {
  mir = layout (Struct.shape D);
  one = refl;
  val = StructLaws.val D L;
  tells = StructLaws.tells D L;
  typed = λ 𝓛 x v is. ((StructLaws.lawful D L 𝓛).typed x _ is).0;
  makes = StructLaws.makes D pl;
}

abbrev pub an_enum : (D : Enum.Declared) (L : EnumLaws.Laws D) → Plainss (Enum.variants D) → Few (Enum.shape D) → Datum (Enum.row D)
an_enum D L pl few = record {
  mir = lone (Enum.row D).mir;
  one = refl;
  val = EnumLaws.val D L;
  tells = EnumLaws.tells D L;
  typed = λ 𝓛 x v is. ((EnumLaws.lawful D L 𝓛 few).typed x _ is).0;
  makes = EnumLaws.makes D pl;
}

-- `After` is a struct of the two and nothing else, the session first. Its machine value (`tells`) and MIR type (`typed`) are theirs side by side, and what is known of it is known of each
pub record Kind : Type 2 where
  pub the_session : RattleType
  pub the_outcome : RattleType
  pub the_after : RattleType
  pub s : Datum the_session
  pub o : Datum the_outcome
  pub name : Sym
  pub session : the_after.Denot → the_session.Denot
  pub outcome : the_after.Denot → the_outcome.Denot
  pub tells : Tells the_after (Is the_after) (λ r. vstruct (vcons (s.val (session r)) (vcons (o.val (outcome r)) vnil)) ∷ [])
  pub typed : {M : Type 1} {𝓤 : Ura M} (𝓛 : Logic 𝓤) → (r : the_after.Denot) (v : Val) → Is the_after r (v ∷ []) → T (has_ty (ty_struct name (tcons s.mir (tcons o.mir tnil))) v) × WT v
  pub session_is : (r : the_after.Denot) (vs : List Val) → Is the_after r vs → Is the_session (session r) (s.val (session r) ∷ [])
  pub outcome_is : (r : the_after.Denot) (vs : List Val) → Is the_after r vs → Is the_outcome (outcome r) (o.val (outcome r) ∷ [])

-- the kind of a crate whose `After` is B: what `B`'s own laws say, at its two fields
abbrev pub a_kind :
    (S : Struct.Declared) (S' : StructLaws.Laws S) (p : Plains (Struct.fields S)) (O : Enum.Declared) (O' : EnumLaws.Laws O) (q : Plainss (Enum.variants O)) (few : Few (Enum.shape O))
    (B : Struct.Declared) (session : (Struct.row B).Denot → (Struct.row S).Denot) (outcome : (Struct.row B).Denot → (Enum.row O).Denot)
    → let s = a_struct S S' p in let o = an_enum O O' q few in let R = Struct.row B in
    Tells R (Is R) (λ r. vstruct (vcons (s.val (session r)) (vcons (o.val (outcome r)) vnil)) ∷ [])
    → ((M : Type 1) (𝓤 : Ura M) (𝓛 : Logic 𝓤) → (r : R.Denot) (v : Val) → Is R r (v ∷ []) → T (has_ty (ty_struct B.name (tcons s.mir (tcons o.mir tnil))) v) × WT v)
    → ((r : R.Denot) (vs : List Val) → Is R r vs → Is (Struct.row S) (session r) (s.val (session r) ∷ []))
    → ((r : R.Denot) (vs : List Val) → Is R r vs → Is (Enum.row O) (outcome r) (o.val (outcome r) ∷ []))
    → Kind
a_kind S S' p O O' q few B session outcome tells typed session_is outcome_is = record {
  the_session = Struct.row S;
  the_outcome = Enum.row O;
  the_after = Struct.row B;
  s = a_struct S S' p;
  o = an_enum O O' q few;
  name = B.name;
  session = session;
  outcome = outcome;
  tells = tells;
  typed = λ {𝓤 = 𝓤} 𝓛 r v is. typed _ 𝓤 𝓛 r v is;
  session_is = session_is;
  outcome_is = outcome_is;
}
