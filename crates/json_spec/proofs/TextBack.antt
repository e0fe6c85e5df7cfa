-- A printed string reads back as its text, and is UTF-8 where its text is.
use Rattle.std.proofs.Common.{ap, ◌∙◌, arith, refl, append_assoc}
use Rattle.std.proofs.lemmas.Bool.{le-leb, and_from, lt-leb, and_right, cond_both, cond-true, cond-false, ltb-true, ltb-false, and_left, or_cases, or_parts, eqb-true, eqb-false}
use Rattle.std.proofs.lemmas.Str.{encode_ascii}
use Rattle.std.specs.Prelude.{◌≡◌, ℕ, ◌≤◌, true, ◌&&◌, nat_le, ◌<◌, false, ◌+◌, nat_lt, Some, ◌*◌, List, ◌∷◌, [], ◌/◌, ◌%◌, ◌⊎◌, cond, ◌||◌, ◌==◌, ◌++◌}
use mathlib.Core.Logic.{inl, inr}
use Rattle.json_spec.specs.PrintedString.{hex_digit, unicode_escape, escaped_byte, escaped}
use Rattle.json_spec.specs.Strings.{hex_value, four_digits, unicode_character, escape_at, ReadsText, plain, escape, close}
use Rattle.json_spec.specs.Taken.{taken, and_then}

within : (low high x : ℕ) → low ≤ x → x ≤ high → (nat_le low x && nat_le x high) ≡ true
within low high x l h = and_from _ _ (le-leb low x l) (le-leb x high h)

above : (low high x : ℕ) → high < x → (nat_le low x && nat_le x high) ≡ false
above low high x l = and_right _ _ (lt-leb x high l)

hex_back : (d : ℕ) → d < 16 → hex_value (hex_digit d) ≡ Some d
hex_back d l = cond_both (nat_lt d 10) (48 + d) (87 + d) (λ x. hex_value x ≡ Some d) low high
  where
    low : nat_lt d 10 ≡ true → hex_value (48 + d) ≡ Some d
    low t = cond-true _ _ _ (within 48 57 (48 + d) (omega arith) (omega (arith, ltb-true d 10 t))) ∙ ap Some (omega arith)

    high : nat_lt d 10 ≡ false → hex_value (87 + d) ≡ Some d
    high t =
        let ten : 10 ≤ d = ltb-false d 10 t in
        cond-false _ _ _ (above 48 57 (87 + d) (omega arith)) ∙ (cond-false _ _ _ (above 65 70 (87 + d) (omega arith)) ∙ (cond-true _ _ _ (within 97 102 (87 + d) (omega arith) (omega arith)) ∙ ap Some (omega arith)))

-- four digits, two of them 0
digits_back : (high low : ℕ) (more : List ℕ) → high < 16 → low < 16 → four_digits (48 ∷ 48 ∷ hex_digit high ∷ hex_digit low ∷ more) ≡ taken (high * 16 + low) more
digits_back high low more h l = rw (hex_back high h, hex_back low l) (ap (λ n. taken n more) (omega arith))

-- a character below U+0080 is no surrogate
character_back : (b : ℕ) (more : List ℕ) → b < 128 → unicode_character b more ≡ taken (b ∷ []) more
character_back b more l =
    cond-false _ _ _ (and_left _ _ (lt-leb 55296 b (omega arith))) ∙ (cond-false _ _ _ (and_left _ _ (lt-leb 56320 b (omega arith))) ∙ ap (λ t. taken t more) (encode_ascii b l))

unicode_back : (b : ℕ) (more : List ℕ) → b < 128 → escape_at (117 ∷ 48 ∷ 48 ∷ hex_digit (b / 16) ∷ hex_digit (b % 16) ∷ more) ≡ taken (b ∷ []) more
unicode_back b more l =
    let digits = digits_back (b / 16) (b % 16) more (omega arith) (omega arith) in
    let value : b / 16 * 16 + b % 16 ≡ b = omega arith in
    ap (λ out. and_then out unicode_character) digits ∙ (ap (λ n. unicode_character n more) value ∙ character_back b more l)

short_back : (b : ℕ) (more : List ℕ) → (b ≡ 34) ⊎ (b ≡ 92) → escape_at (b ∷ more) ≡ taken (b ∷ []) more
short_back b more (inl e) = rw e refl
short_back b more (inr e) = rw e refl

byte_back : (b : ℕ) (t more rest : List ℕ) → ReadsText more (taken t rest) → ReadsText (escaped_byte b ++ more) (taken (b ∷ t) rest)
byte_back b t more rest r =
    cond_both (b == 34 || b == 92) _ _ (λ piece. ReadsText (piece ++ more) (taken (b ∷ t) rest)) short others
  where
    short : (b == 34 || b == 92) ≡ true → ReadsText (92 ∷ b ∷ more) (taken (b ∷ t) rest)
    short test = escape (short_back b more (elim (or_cases (b == 34) (b == 92) test) [ inl e ↦ inl (eqb-true b 34 e) | inr e ↦ inr (eqb-true b 92 e) ])) r

    others : (b == 34 || b == 92) ≡ false → ReadsText ((cond (nat_lt b 32 || b == 60) (unicode_escape b) (b ∷ [])) ++ more) (taken (b ∷ t) rest)
    others test = cond_both (nat_lt b 32 || b == 60) _ _ (λ piece. ReadsText (piece ++ more) (taken (b ∷ t) rest)) digits itself
      where
        digits : (nat_lt b 32 || b == 60) ≡ true → ReadsText (unicode_escape b ++ more) (taken (b ∷ t) rest)
        digits low = escape (unicode_back b more (elim (or_cases (nat_lt b 32) (b == 60) low) [ inl e ↦ omega (arith, ltb-true b 32 e) | inr e ↦ omega (arith, eqb-true b 60 e) ])) r

        itself : (nat_lt b 32 || b == 60) ≡ false → ReadsText (b ∷ more) (taken (b ∷ t) rest)
        itself high =
            let apart = or_parts (b == 34) (b == 92) test in
            let above = or_parts (nat_lt b 32) (b == 60) high in
            plain (eqb-false b 34 apart.0) (eqb-false b 92 apart.1) (ltb-false b 32 above.0) r

pub text_back : (t rest : List ℕ) → ReadsText (escaped t ++ 34 ∷ rest) (taken t rest)
text_back [] rest = close
text_back (b ∷ t) rest = rw append_assoc (byte_back b t (escaped t ++ 34 ∷ rest) rest (text_back t rest))
