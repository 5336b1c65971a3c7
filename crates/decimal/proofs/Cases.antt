-- Texts worked out over the definitions. They are those that Python's `repr` gives, laid out by the rule at the head of specs/Text.antt. Assumes nothing.
use mathlib.Core.Path.{◌≡◌, refl}
use mathlib.Core.List.{List, [], ◌∷◌, map}
use Prim.Native.Nat.{ℕ}
use Prim.Native.String.{String}
use Rattle.words.specs.Ascii.{ascii}
use Rattle.shortest.specs.Digits.{raises, lowers, ending, shortest, find, between, quarters, digits_of}
use Rattle.decimal.specs.Text.{digits, sign, behind, pointed, width, exponent, scientific, positional, laid, unsigned, text}

pub record Case : Type 0 where
  pub bits : ℕ
  pub wants : String

abbrev ◌reads◌ : ℕ → String → Case
bits reads wants = record { bits = bits; wants = wants }

infix 20 ◌reads◌
abbrev pub cases : List Case
cases =
    (0x0000_0000_0000_0000 reads "0") ∷ (0x8000_0000_0000_0000 reads "-0") ∷ (0x3ff0_0000_0000_0000 reads "1") ∷ (0xbff0_0000_0000_0000 reads "-1")
    ∷ (0x3fb9_9999_9999_999a reads "0.1") ∷ (0x3fd3_3333_3333_3334 reads "0.30000000000000004") ∷ (0x4059_0000_0000_0000 reads "100")
    ∷ (0x40c8_1cd6_c8b4_3958 reads "12345.678") ∷ (0xbf54_26fe_718a_86d7 reads "-0.00123")
    ∷ (0x430c_6bf5_2633_ffff reads "999999999999999.9") ∷ (0x430c_6bf5_2634_0000 reads "1000000000000000")
    ∷ (0x4340_0000_0000_0000 reads "9007199254740992") ∷ (0x4341_c379_37e0_7fff reads "9999999999999998") ∷ (0x4341_c379_37e0_8000 reads "1e16")
    ∷ (0x437b_69b4_ba63_0f35 reads "1.2345678901234568e17") ∷ (0x44b5_2d02_c7e1_4af6 reads "1e23")
    ∷ (0x3ee4_f8b5_88e3_68f1 reads "0.00001") ∷ (0x3ee9_e3ab_e16f_c70d reads "0.000012345")
    ∷ (0x3ee4_f82c_1884_27ba reads "9.999e-6") ∷ (0x3e7a_d7f2_9abc_af48 reads "1e-7")
    ∷ (0x0000_0000_0000_0001 reads "5e-324") ∷ (0x8010_0000_0000_0000 reads "-2.2250738585072014e-308")
    ∷ (0x7fef_ffff_ffff_ffff reads "1.7976931348623157e308") ∷ (0xd4b2_49ad_2594_c37d reads "-1e100")
    ∷ (0x7ff0_0000_0000_0000 reads "inf") ∷ (0xfff0_0000_0000_0000 reads "-inf") ∷ (0x7ff8_0000_0000_0000 reads "nan") ∷ (0xfff8_0000_0000_0000 reads "nan")
    ∷ []

pub texts : map (λ (c : Case). text c.bits) cases ≡ map (λ (c : Case). ascii c.wants) cases
unfolding text unsigned laid positional scientific exponent width pointed behind sign digits digits_of quarters between find shortest ending lowers raises
texts = refl
