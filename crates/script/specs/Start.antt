-- The words of a start: "kind, n; kernel, radius, max_radius, eta, epsilon, limit" or "kernel, radius, eta, factor, tol_grad, epsilon, limit"; "in kinds 3 and 4 alone: k, then
-- k further settings"; "cost; point, gradient, Hessian". Definitions only.
use Rattle.std.specs.Prelude.{◌≡◌, Bool, true, false, not, ◌&&◌, Option, Some, None, List, [], ◌∷◌, ℕ, ◌+◌, ◌*◌, eqb, ltb, length, drop, Float}
use Rattle.std.proofs.Math.Bool.{cond}
use Rattle.std.proofs.Math.Dec.{leb}
use Rattle.vectors.specs.Refusal.{size}
use Rattle.codec.specs.Codec.{by_default, trust_region_of, sr1_of}
use Rattle.codec.specs.declared.Wholes.{Wholes}
use Rattle.trustregion.specs.declared.settings.Settings as trustregion
use Rattle.sr1.specs.declared.settings.Settings as sr1
use Rattle.script.specs.declared.Kind.{Kind}
use Rattle.script.specs.declared.Kind.TheVariants as kind
use Rattle.script.specs.declared.start.Start.{Start}
use Rattle.script.specs.declared.start.Start.TheVariants as start
use Rattle.script.specs.Places.{word, number, numbers}

module _ (words : List ℕ) where
  -- "kinds 1 and 3, `TrustRegion`"; "kinds 2 and 4, `SR1TrustRegion`"
  abbrev pub kind_of : Kind
  kind_of = cond (eqb (word words 0) 1) kind.TrustRegion (cond (eqb (word words 0) 3) kind.TrustRegion kind.Sr1)

  abbrev pub size_of : ℕ
  size_of = word words 1

  -- kinds 3 and 4
  abbrev pub tells_more : Bool
  tells_more = ltb 2 (word words 0)

-- one of two, by the kind
abbrev pub by_kind : {A : Type 0} → (trust_region sr1 : A) → Kind → A
by_kind trust_region sr1 kind.TrustRegion = trust_region
by_kind trust_region sr1 kind.Sr1 = sr1

module _ (words : List ℕ) where
  -- "a kind other than 1 to 4, n not 1 to 64" make no start
  unfoldable pub begins : Bool
  unfolding size
  begins = leb 1 (word words 0) && leb (word words 0) 4 && size (size_of words)

  -- where the limit stands
  abbrev pub limit_at : ℕ
  limit_at = by_kind 7 8 (kind_of words)

  -- how many words there are before the further settings
  abbrev pub head : ℕ
  head = cond (tells_more words) (limit_at + 2) (limit_at + 1)

  -- how many further settings are told, and how many the kind knows: "kind 3 knows two and kind 4 all three"
  abbrev pub further : ℕ
  further = cond (tells_more words) (word words (limit_at + 1)) 0

  abbrev pub known : ℕ
  known = by_kind 2 3 (kind_of words)

  -- where the cost stands
  abbrev pub cost_at : ℕ
  cost_at = head + further

-- how many words there are in all, where so many stand before the further settings
abbrev pub whole : (head further n : ℕ) → ℕ
whole head further n = head + further + 1 + 2 * n + n * n

module _ (words : List ℕ) where
  -- How many words the start has, as far as those that are there tell it: two, those before the further settings, all. 0 where one of them may not stand there.
  unfoldable pub wants : ℕ
  unfolding begins
  wants =
      cond (ltb (length words) 2) 2
      (cond (not (begins words)) 0
      (cond (ltb (length words) (head words)) (head words)
      (cond (ltb (known words) (further words)) 0
      (whole (head words) (further words) (size_of words)))))

  -- "The first k are told. Those that are missing, and all of them in kinds 1 and 2, are 1,000, 1 and 1."
  abbrev pub setting : (place missing : ℕ) → ℕ
  setting place missing = cond (ltb place (further words)) (word words (head words + place)) missing

  unfoldable pub wholes : Wholes
  wholes =
      let told = by_default (word words 2) (word words (limit_at words)) in
      record { kernel = told.kernel; limit = told.limit; allowance = setting 0 told.allowance; dogleg = setting 1 told.dogleg; edition = setting 2 told.edition }

  -- epsilon is the last number
  unfoldable pub trust_region : trustregion.Settings
  unfolding wholes
  trust_region = trust_region_of wholes (number words 6) (number words 3 ∷ number words 4 ∷ number words 5 ∷ [])

  unfoldable pub sr1_settings : sr1.Settings
  unfolding wholes
  sr1_settings = sr1_of wholes (number words 7) (number words 3 ∷ number words 4 ∷ number words 5 ∷ number words 6 ∷ [])

  abbrev pub opening : Kind → Start
  opening kind.TrustRegion = start.TrustRegion trust_region (number words (cost_at words))
  opening kind.Sr1 = start.Sr1 sr1_settings (number words (cost_at words))

  -- the words are all there, and no more
  abbrev pub is_whole : Bool
  is_whole = eqb wants (length words)

  unfoldable pub start_of : Option Start
  unfolding wants trust_region sr1_settings
  start_of = cond is_whole (Some (opening (kind_of words))) None

-- point, gradient and Hessian stand at the end, in this order; a list is filled with as many numbers as it has
pub record Lists (words : List ℕ) (point point' gradient gradient' hessian hessian' : List Float) : Type 0 where
  pub point_there : point' ≡ numbers (drop (cost_at words + 1) words) (length point)
  pub gradient_there : gradient' ≡ numbers (drop (cost_at words + 1 + size_of words) words) (length gradient)
  pub hessian_there : hessian' ≡ numbers (drop (cost_at words + 1 + 2 * size_of words) words) (length hessian)

-- no list is touched
pub record Left (point point' gradient gradient' hessian hessian' : List Float) : Type 0 where
  pub point_kept : point' ≡ point
  pub gradient_kept : gradient' ≡ gradient
  pub hessian_kept : hessian' ≡ hessian

abbrev pub lists_by : Bool → (words : List ℕ) → (point point' gradient gradient' hessian hessian' : List Float) → Type 0
lists_by true words point point' gradient gradient' hessian hessian' = Lists words point point' gradient gradient' hessian hessian'
lists_by false words point point' gradient gradient' hessian hessian' = Left point point' gradient gradient' hessian hessian'

-- the lists are filled where there is a start, and else left
pub record Decoded (words : List ℕ) (r : Option Start) (point point' gradient gradient' hessian hessian' : List Float) : Type 0 where
  pub says : r ≡ start_of words
  pub leaves : lists_by (is_whole words) words point point' gradient gradient' hessian hessian'
