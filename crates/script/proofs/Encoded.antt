-- A start or a call that was told in words is read back as it was: the format loses nothing. Assumes nothing.
use mathlib.Core.Path.{◌≡◌, refl, sym, ◌∙◌, ap}
use mathlib.Core.Bool.{Bool, true, false, cond, not}
use Rattle.std.specs.Prelude.{Option, Some, None}
use mathlib.Core.List.{List, [], ◌∷◌, ◌++◌, append-nil}
use Prim.Native.Nat.{ℕ, suc, ◌+◌, ◌*◌, ◌≤◌}
use native.Mathlib.Omega.{arith}
use lib.Dec.{eqb, ltb}
use lib.ListN.{length, drop, length-append, length-map}
use lib.Seq.{drop_at, drop-drop}
use lib.IntN.{pos, negsuc}
use lib.Ieee.{Float, nan, fin, binary64, of_bits, to_bits}
use lib.Ieee.Bits.{of_bits-to_bits}
use borrow.Author.Tests.{eq-eqb, le-ltb, le-leb}
use Rattle.vectors.specs.Vector.{at, tab}
use Rattle.codec.specs.Codec.{phase_of}
use Rattle.offer.specs.declared.state.Phase.{Phase}
use Rattle.offer.specs.declared.state.Phase.TheVariants.{Ready, AwaitingCost, AwaitingDerivatives}
use Rattle.trustregion.specs.Run as TrustRegion
use Rattle.trustregion.specs.declared.settings.Settings as trustregion
use Rattle.sr1.specs.Run as Sr1
use Rattle.sr1.specs.declared.settings.Settings as sr1_session
use Rattle.script.specs.declared.Kind.{Kind}
use Rattle.script.specs.declared.Kind.TheVariants as kind
use Rattle.script.specs.declared.call.Call as declared
use Rattle.script.specs.declared.call.Call.TheVariants as code
use Rattle.script.specs.Places.{word, number, numbers}
use Rattle.script.specs.Call.{Call, trust_region, sr1, change, count, odd, call_words, wants, is_whole, Decoded, turn_at, asks_trust_region, asks_sr1, asks, asked}
use Rattle.script.specs.declared.start.Start.TheVariants as start
use Rattle.script.specs.Start as Start
use Rattle.script.specs.Start.{size_of, begins, head, further, known, whole, start_of}
use Rattle.script.proofs.Calls.{wants_at}
use Rattle.script.specs.Encode.{word_of, bits, call_encoded, Held, Numbers, trust_region_fits, sr1_fits, phase_fits, Fits, lists_encoded, trust_region_start, sr1_start, ListsFit, TrustRegionHeld, Sr1Held, Tells}

-- ---- numbers and lists of numbers

pub back : (x : Float) → Held x → of_bits binary64 (word_of x) ≡ x
back x h = of_bits-to_bits binary64 x h

pub length_bits : (v : List Float) → length (bits v) ≡ length v
length_bits v = length-map v word_of

all_back : (v : List Float) (rest : List ℕ) → ((i : ℕ) → Held (at v i)) → numbers (bits v ++ rest) (length v) ≡ v
unfolding numbers tab
all_back [] rest h = refl
all_back (x ∷ v) rest h = rw (back x (h 0)) (ap (λ (l : List Float). x ∷ l) (all_back v rest (λ i. h (suc i))))

module _ {n : ℕ} {v : List Float} (f : Numbers n v) where
  -- whatever stands behind them
  pub numbers_back : (rest : List ℕ) → numbers (bits v ++ rest) n ≡ v
  numbers_back rest = rw (← f.long) (all_back v rest f.held)

  pub numbers_back_last : numbers (bits v) n ≡ v
  numbers_back_last = rw append-nil at (numbers_back [])

  pub numbers_long : length (bits v) ≡ n
  numbers_long = length_bits v ∙ f.long

-- ---- calls

-- words of a call's length make a call
whole_call : (k : Kind) (n first : ℕ) (rest : List ℕ) → n ≤ 64 → call_words k n first ≡ length (first ∷ rest) → is_whole k n (first ∷ rest) ≡ true
whole_call k n first rest small e = eq-eqb _ _ (sym (wants_at k n (first ∷ rest) first (λ (none : suc (length rest) ≡ 0). omega (arith, none)) small refl) ∙ e)

module _ (n : ℕ) (small : n ≤ 64) where
  trust_region_back : (r : TrustRegion.Request) → trust_region_fits n r → asked kind.TrustRegion n (call_encoded (trust_region r)) ≡ trust_region r
  unfolding asked wants
  trust_region_back (TrustRegion.propose t) h = rw (le-ltb 64 n small)
  trust_region_back (TrustRegion.cost t F) h = rw (le-ltb 64 n small, back F h)
  trust_region_back (TrustRegion.derivatives t g H) h =
      let long : 2 + n + n * n ≡ length (3 ∷ t ∷ bits g ++ bits H) = omega (arith, length-append (bits g) (bits H), numbers_long h.0, numbers_long h.1) in
      let behind : drop (2 + n) (3 ∷ t ∷ bits g ++ bits H) ≡ bits H = drop_at (3 ∷ t ∷ bits g) (bits H) (2 + n) (omega (arith, numbers_long h.0)) in
      rw (whole_call kind.TrustRegion n 3 (t ∷ bits g ++ bits H) small long, numbers_back h.0 (bits H), behind, numbers_back_last h.1)

  sr1_back : (r : Sr1.Request) → sr1_fits n r → asked kind.Sr1 n (call_encoded (sr1 r)) ≡ sr1 r
  unfolding asked wants
  sr1_back (Sr1.propose t) h = rw (le-ltb 64 n small)
  sr1_back (Sr1.answer t F G) h =
      let long : 3 + n ≡ length (2 ∷ t ∷ word_of F ∷ bits G) = omega (arith, numbers_long h.1) in
      rw (whole_call kind.Sr1 n 2 (t ∷ word_of F ∷ bits G) small long, back F h.0, numbers_back_last h.1)

  change_back : (k : Kind) (radius cost : Float) (p : Phase) → Held radius → Held cost → phase_fits k p → asked k n (call_encoded (change radius cost p)) ≡ change radius cost p
  unfolding asked wants
  change_back kind.TrustRegion radius cost Ready a b h = rw (le-ltb 64 n small, back radius a, back cost b)
  change_back kind.Sr1 radius cost Ready a b h = rw (le-ltb 64 n small, back radius a, back cost b)
  change_back kind.TrustRegion radius cost (AwaitingCost promise norm) a b h = rw (le-ltb 64 n small, back radius a, back cost b, back promise h.0, back norm h.1)
  change_back kind.Sr1 radius cost (AwaitingCost promise norm) a b h = rw (le-ltb 64 n small, back radius a, back cost b, back promise h.0, back norm h.1)
  change_back kind.TrustRegion radius cost AwaitingDerivatives a b h = rw (le-ltb 64 n small, back radius a, back cost b)
  change_back kind.Sr1 radius cost AwaitingDerivatives a b h = absurd h

  count_back : (k : Kind) (c : ℕ) → asked k n (call_encoded (count c)) ≡ count c
  unfolding asked wants
  count_back kind.TrustRegion c = rw (le-ltb 64 n small)
  count_back kind.Sr1 c = rw (le-ltb 64 n small)

-- decoding what was encoded gives the call back
pub call_back : (k : Kind) (n : ℕ) (c : Call) → Fits k n c → asked k n (call_encoded c) ≡ c
call_back kind.TrustRegion n (trust_region r) f = trust_region_back n f.small r f.told
call_back kind.Sr1 n (trust_region r) f = absurd f.told
call_back kind.TrustRegion n (sr1 r) f = absurd f.told
call_back kind.Sr1 n (sr1 r) f = sr1_back n f.small r f.told
call_back k n (change radius cost p) f = change_back n f.small k radius cost p f.told.0 f.told.1 f.told.2
call_back k n (count c) f = count_back n f.small k c
call_back k n odd f = absurd f.told

-- ---- starts

-- what `wants` gives past its tests
past : (a b c d : Bool) (h w : ℕ) → a ≡ false → b ≡ true → c ≡ false → d ≡ false → cond a 2 (cond (not b) 0 (cond c h (cond d 0 w))) ≡ w
past a b c d h w p q r s = rw (p, q, r, s)

-- words of a start's length make a start
whole_start : (words : List ℕ) → 2 ≤ length words → begins words ≡ true → head words ≤ length words → further words ≤ known words → whole (head words) (further words) (size_of words) ≡ length words
    → Start.is_whole words ≡ true
unfolding Start.wants
whole_start words two begun long told e =
    eq-eqb _ _
    (past (ltb (length words) 2) (begins words) (ltb (length words) (head words)) (ltb (known words) (further words)) (head words) (whole (head words) (further words) (size_of words))
    (le-ltb _ _ two) begun (le-ltb _ _ long) (le-ltb _ _ told) ∙ e)

module _ {n : ℕ} {point gradient hessian : List Float} (f : ListsFit n point gradient hessian) where
  lists_long : length (lists_encoded point gradient hessian) ≡ 2 * n + n * n
  lists_long =
      omega (arith, length-append (bits point) (bits gradient ++ bits hessian), length-append (bits gradient) (bits hessian), numbers_long f.point_fits, numbers_long f.gradient_fits, numbers_long f.hessian_fits)

  -- where the lists stand behind so many words
  module _ (words : List ℕ) (i : ℕ) (e : drop i words ≡ lists_encoded point gradient hessian) where
    point_there : numbers (drop i words) n ≡ point
    point_there = rw e (numbers_back f.point_fits (bits gradient ++ bits hessian))

    behind_point : drop (i + n) words ≡ bits gradient ++ bits hessian
    behind_point = sym (drop-drop n i words) ∙ (ap (drop n) e ∙ drop_at (bits point) (bits gradient ++ bits hessian) n (numbers_long f.point_fits))

    gradient_there : numbers (drop (i + n) words) n ≡ gradient
    gradient_there = rw behind_point (numbers_back f.gradient_fits (bits hessian))

    behind_gradient : drop (i + 2 * n) words ≡ bits hessian
    behind_gradient =
        let twice : i + 2 * n ≡ i + n + n = omega arith in
        ap (λ (k : ℕ). drop k words) twice ∙ (sym (drop-drop n (i + n) words) ∙ (ap (drop n) behind_point ∙ drop_at (bits gradient) (bits hessian) n (numbers_long f.gradient_fits)))

    hessian_there : numbers (drop (i + 2 * n) words) (n * n) ≡ hessian
    hessian_there = rw behind_gradient (numbers_back_last f.hessian_fits)

module _ (t : trustregion.Settings) (cost : Float) (n : ℕ) (point gradient hessian : List Float) (h : TrustRegionHeld t) (held : Held cost) (f : ListsFit n point gradient hessian) where
  abbrev told_trust_region : List ℕ
  told_trust_region = trust_region_start t cost n point gradient hessian

  trust_region_begins : begins told_trust_region ≡ true
  unfolding begins
  trust_region_begins = rw (le-leb 1 n f.low, le-leb n 64 f.high)

  trust_region_whole : Start.is_whole told_trust_region ≡ true
  trust_region_whole = whole_start told_trust_region (omega arith) trust_region_begins (omega arith) (omega arith) (omega (arith, lists_long f))

  trust_region_opens : start_of told_trust_region ≡ Some (start.TrustRegion t cost)
  unfolding start_of
  trust_region_opens = rw (trust_region_whole, back cost held, back t.radius h.radius, back t.max_radius h.max_radius, back t.eta h.eta, back t.choice.epsilon h.epsilon)

  pub trust_region_start_back : Tells (trust_region_start t cost n point gradient hessian) (start.TrustRegion t cost) n point gradient hessian
  trust_region_start_back =
      record { whole = trust_region_whole; start_back = trust_region_opens; point_back = point_there f told_trust_region 12 refl; gradient_back = gradient_there f told_trust_region 12 refl; hessian_back = hessian_there f told_trust_region 12 refl }

module _ (t : sr1_session.Settings) (cost : Float) (n : ℕ) (point gradient hessian : List Float) (h : Sr1Held t) (held : Held cost) (f : ListsFit n point gradient hessian) where
  abbrev told_sr1 : List ℕ
  told_sr1 = sr1_start t cost n point gradient hessian

  sr1_begins : begins told_sr1 ≡ true
  unfolding begins
  sr1_begins = rw (le-leb 1 n f.low, le-leb n 64 f.high)

  sr1_whole : Start.is_whole told_sr1 ≡ true
  sr1_whole = whole_start told_sr1 (omega arith) sr1_begins (omega arith) (omega arith) (omega (arith, lists_long f))

  sr1_opens : start_of told_sr1 ≡ Some (start.Sr1 t cost)
  unfolding start_of
  sr1_opens =
      rw (sr1_whole, back cost held, back t.radius h.radius, back t.eta h.eta, back t.factor h.factor, back t.tol_grad h.tol_grad, back t.choice.epsilon h.epsilon)

  pub sr1_start_back : Tells (sr1_start t cost n point gradient hessian) (start.Sr1 t cost) n point gradient hessian
  sr1_start_back = record { whole = sr1_whole; start_back = sr1_opens; point_back = point_there f told_sr1 14 refl; gradient_back = gradient_there f told_sr1 14 refl; hessian_back = hessian_there f told_sr1 14 refl }

-- ---- what the code decodes, into lists of the session's lengths

-- by the tests: w whole, b1 to b5 the number of the call, p a phase that the kind does not have
module _ (a : ℕ) (F radius cost : Float) (q : Phase) where
  abbrev by_tests : (b1 b2 b3 b4 p b5 : Bool) → Option declared.Call
  by_tests b1 b2 b3 b4 p b5 =
      cond b1 (Some (code.Propose a)) (cond b2 (Some (code.Cost a F)) (cond b3 (Some (code.Derivatives a)) (cond b4 (cond p None (Some (code.Change radius cost q))) (cond b5 (Some (code.Count a)) None))))

  trust_region_tests : (w b1 b2 b3 b4 p b5 : Bool) (g h G H : List Float)
      → asks_trust_region (cond w (by_tests b1 b2 b3 b4 p b5) None) (cond w (cond b2 G (cond b3 g G)) G) (cond w (cond b3 h H) H) ≡ cond w (asks_trust_region (by_tests b1 b2 b3 b4 p b5) g h) odd
  trust_region_tests false b1 b2 b3 b4 p b5 g h G H = refl
  trust_region_tests true true b2 b3 b4 p b5 g h G H = refl
  trust_region_tests true false true b3 b4 p b5 g h G H = refl
  trust_region_tests true false false true b4 p b5 g h G H = refl
  trust_region_tests true false false false true true b5 g h G H = refl
  trust_region_tests true false false false true false b5 g h G H = refl
  trust_region_tests true false false false false p true g h G H = refl
  trust_region_tests true false false false false p false g h G H = refl

  sr1_tests : (w b1 b2 b3 b4 p b5 : Bool) (g z G : List Float)
      → asks_sr1 (cond w (by_tests b1 b2 b3 b4 p b5) None) (cond w (cond b2 g (cond b3 z G)) G) ≡ cond w (asks_sr1 (by_tests b1 b2 b3 b4 p b5) g) odd
  sr1_tests false b1 b2 b3 b4 p b5 g z G = refl
  sr1_tests true true b2 b3 b4 p b5 g z G = refl
  sr1_tests true false true b3 b4 p b5 g z G = refl
  sr1_tests true false false true b4 p b5 g z G = refl
  sr1_tests true false false false true true b5 g z G = refl
  sr1_tests true false false false true false b5 g z G = refl
  sr1_tests true false false false false p true g z G = refl
  sr1_tests true false false false false p false g z G = refl

-- whatever the words
pub decoded_asked : (k : Kind) (n : ℕ) (words : List ℕ) {r : Option declared.Call} {G G' H H' : List Float} → Decoded k n words r G G' H H' → length G ≡ n → length H ≡ n * n → asks k r G' H' ≡ asked k n words
unfolding asked
decoded_asked kind.TrustRegion n words {r} {G} {G'} {H} {H'} d g h =
    rw (d.says, d.leaves_gradient, d.leaves_hessian, g, h)
    (trust_region_tests (word words 1) (number words 2) (number words 1) (number words 2) (phase_of (turn_at words))
    (is_whole kind.TrustRegion n words) (eqb (word words 0) 1) (eqb (word words 0) 2) (eqb (word words 0) 3) (eqb (word words 0) 4) (ltb 2 (word words 3)) (eqb (word words 0) 5)
    (numbers (drop 2 words) n) (numbers (drop (2 + n) words) (n * n)) G H)
decoded_asked kind.Sr1 n words {r} {G} {G'} {H} {H'} d g h =
    rw (d.says, d.leaves_gradient, g)
    (sr1_tests (word words 1) (number words 2) (number words 1) (number words 2) (phase_of (turn_at words))
    (is_whole kind.Sr1 n words) (eqb (word words 0) 1) (eqb (word words 0) 2) (eqb (word words 0) 3) (eqb (word words 0) 4) (ltb 1 (word words 3)) (eqb (word words 0) 5)
    (numbers (drop 3 words) n) (numbers (drop 2 words) n) G)

pub call_decoded : (k : Kind) (n : ℕ) (c : Call) {r : Option declared.Call} {G G' H H' : List Float} → Fits k n c → Decoded k n (call_encoded c) r G G' H H' → length G ≡ n → length H ≡ n * n → asks k r G' H' ≡ c
call_decoded k n c f d g h = decoded_asked k n (call_encoded c) d g h ∙ call_back k n c f

pub start_decoded : (words : List ℕ) {s : start.the_data} {r : Option start.the_data} {n : ℕ} {point gradient hessian p p' g g' h h' : List Float} → Tells words s n point gradient hessian
    → Start.Decoded words r p p' g g' h h' → length p ≡ n → length g ≡ n → length h ≡ n * n → (r ≡ Some s) × (p' ≡ point) × (g' ≡ gradient) × (h' ≡ hessian)
start_decoded words {p = p} {p'} {g} {g'} {h} {h'} t d a b c =
    let l : Start.Lists words p p' g g' h h' = rw t.whole at d.leaves in (
      d.says ∙ t.start_back,
      rw a at l.point_there ∙ t.point_back,
      rw b at l.gradient_there ∙ t.gradient_back,
      rw c at l.hessian_there ∙ t.hessian_back,
    )

-- ---- cases: the calls of the fit of one parameter in "replay"

-- 1.0; its bits, and the other words below, are those that the document packs
unfoldable one : Float
one = fin false 1 (pos 0)

case_propose : call_encoded (trust_region (TrustRegion.propose 1)) ≡ 1 ∷ 1 ∷ []
case_propose = refl

case_cost : call_encoded (trust_region (TrustRegion.cost 1 (fin false 1 (negsuc 0)))) ≡ 2 ∷ 1 ∷ 4602678819172646912 ∷ []
unfolding to_bits
case_cost = refl

-- "a NaN is always `7ff8000000000000`"
case_hidden : call_encoded (trust_region (TrustRegion.cost 1 nan)) ≡ 2 ∷ 1 ∷ 9221120237041090560 ∷ []
unfolding to_bits
case_hidden = refl

case_derivatives : call_encoded (trust_region (TrustRegion.derivatives 1 (one ∷ []) (one ∷ []))) ≡ 3 ∷ 1 ∷ 4607182418800017408 ∷ 4607182418800017408 ∷ []
unfolding to_bits one
case_derivatives = refl

case_asked : asked kind.TrustRegion 1 (3 ∷ 1 ∷ 4607182418800017408 ∷ 4607182418800017408 ∷ []) ≡ trust_region (TrustRegion.derivatives 1 (one ∷ []) (one ∷ []))
unfolding asked of_bits one
case_asked = refl
