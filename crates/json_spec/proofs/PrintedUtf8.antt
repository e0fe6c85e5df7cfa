-- What is printed is UTF-8 where its texts are.
use Rattle.std.proofs.Common.{ap, arith, refl}
use Rattle.std.proofs.Math.Utf8.{low_scalar, scalar, scalars}
use Rattle.std.proofs.lemmas.Bool.{and_from, cond_both, or_cases, ltb-true, eqb-true, cases_lt, and_parts}
use Rattle.std.proofs.lemmas.Grind.{flat_map-append}
use Rattle.std.proofs.lemmas.Str.{encode_ascii, IsUtf8-encode, IsUtf8-nil, IsUtf8-append}
use Rattle.std.specs.Char.{encode_utf8}
use Rattle.std.specs.Prelude.{ℕ, ◌<◌, List, ◌∷◌, IsUtf8, ◌+◌, nat_lt, ◌/◌, ◌%◌, ◌||◌, ◌==◌, ◌++◌, ◌≡◌, ◌≤◌, [], true, encode_utf8_all, zero, suc, codes, false}
use mathlib.Core.Logic.{inl, inr}
use Rattle.std.proofs.lemmas.List.Elements.{All-head, All-tail}
use Rattle.std.specs.Prelude.{All}
use Rattle.json_spec.specs.Numbers.{IsNumber}
use Rattle.json_spec.proofs.NumberBack.{IsNumberByte, number_bytes, byte_low}
use Rattle.json_spec.specs.PrintedString.{hex_digit, unicode_escape, escaped_byte, escaped, quoted}
use Rattle.json_spec.specs.PrintedValue.{margin, line, printed, printed_items, printed_members, IsPrintable, ArePrintable, MembersArePrintable, printed_text}
use Rattle.json_spec.specs.Value.{Json, a_null, a_bool, a_number, a_text, a_list, an_object, Items, no_items, an_item, Members, no_members, a_member}

pub ascii_first : (b : ℕ) (bytes : List ℕ) → b < 128 → IsUtf8 bytes → IsUtf8 (b ∷ bytes)
ascii_first b bytes l u = (b ∷ u.0, (and_from _ _ (low_scalar b (omega arith)) u.1.0, rw (encode_ascii b l) (ap (λ (xs : List ℕ). b ∷ xs) u.1.1)))

digit_low : (d : ℕ) → d < 16 → hex_digit d < 128
digit_low d l = cond_both (nat_lt d 10) (48 + d) (87 + d) (λ x. x < 128) (λ e. omega arith) (λ e. omega arith)

low_utf8 : (b : ℕ) (rest : List ℕ) → b < 128 → IsUtf8 rest → IsUtf8 (escaped_byte b ++ rest)
low_utf8 b rest l u =
    cond_both (b == 34 || b == 92) _ _ (λ piece. IsUtf8 (piece ++ rest)) (λ e. ascii_first 92 _ (omega arith) itself)
    (λ e. cond_both (nat_lt b 32 || b == 60) _ _ (λ piece. IsUtf8 (piece ++ rest)) (λ f. digits) (λ f. itself))
  where
    itself : IsUtf8 (b ∷ rest)
    itself = ascii_first b rest l u

    digits : IsUtf8 (unicode_escape b ++ rest)
    digits =
        ascii_first 92 _ (omega arith) (ascii_first 117 _ (omega arith) (ascii_first 48 _ (omega arith) (ascii_first 48 _ (omega arith)
        (ascii_first _ _ (digit_low (b / 16) (omega arith)) (ascii_first _ _ (digit_low (b % 16) (omega arith)) u)))))

-- a byte of a character past U+007F stands as it is
high_byte : (b : ℕ) → 128 ≤ b → escaped_byte b ≡ b ∷ []
high_byte b l =
    cond_both (b == 34 || b == 92) _ _ (λ piece. piece ≡ b ∷ []) (λ e. absurd (elim (or_cases (b == 34) (b == 92) e) [ inl f ↦ omega (arith, eqb-true b 34 f) | inr f ↦ omega (arith, eqb-true b 92 f) ]))
    (λ e. cond_both (nat_lt b 32 || b == 60) _ _ (λ piece. piece ≡ b ∷ []) (λ f. absurd (elim (or_cases (nat_lt b 32) (b == 60) f) [ inl g ↦ omega (arith, ltb-true b 32 g) | inr g ↦ omega (arith, eqb-true b 60 g) ])) (λ f. refl))

high_first : (b : ℕ) (bytes : List ℕ) → 128 ≤ b → escaped bytes ≡ bytes → escaped (b ∷ bytes) ≡ b ∷ bytes
high_first b bytes l e = rw (high_byte b l) (ap (λ (xs : List ℕ). b ∷ xs) e)

high_character : (c : ℕ) → 128 ≤ c → escaped (encode_utf8 c) ≡ encode_utf8 c
unfolding encode_utf8
high_character c l =
    cond_both (nat_lt c 128) _ _ (λ bytes. escaped bytes ≡ bytes) (λ e. absurd (omega (arith, ltb-true c 128 e)))
    (λ e. cond_both (nat_lt c 2048) _ _ (λ bytes. escaped bytes ≡ bytes) (λ f. high_first _ _ (omega arith) (high_first _ _ (omega arith) refl))
    (λ f. cond_both (nat_lt c 65536) _ _ (λ bytes. escaped bytes ≡ bytes) (λ g. high_first _ _ (omega arith) (high_first _ _ (omega arith) (high_first _ _ (omega arith) refl)))
    (λ g. high_first _ _ (omega arith) (high_first _ _ (omega arith) (high_first _ _ (omega arith) (high_first _ _ (omega arith) refl))))))

character_utf8 : (c : ℕ) → scalar c ≡ true → IsUtf8 (escaped (encode_utf8 c))
character_utf8 c s =
    elim (cases_lt c 128) [
      | inl l ↦ rw (encode_ascii c l) (low_utf8 c [] l IsUtf8-nil)
      | inr l ↦ rw (high_character c l) (IsUtf8-encode c s)
    ]

characters_utf8 : (cs : List ℕ) → scalars cs ≡ true → IsUtf8 (escaped (encode_utf8_all cs))
characters_utf8 [] s = IsUtf8-nil
characters_utf8 (c ∷ cs) s =
    let parts = and_parts (scalar c) (scalars cs) s in
    rw (flat_map-append escaped_byte (encode_utf8 c) (encode_utf8_all cs)) (IsUtf8-append _ _ (character_utf8 c parts.0) (characters_utf8 cs parts.1))

pub escaped_utf8 : (text : List ℕ) → IsUtf8 text → IsUtf8 (escaped text)
escaped_utf8 text u = rw (← u.1.1) (characters_utf8 u.0 u.1.0)

pub quoted_utf8 : (text : List ℕ) → IsUtf8 text → IsUtf8 (quoted text)
quoted_utf8 text u = ascii_first 34 _ (omega arith) (IsUtf8-append _ _ (escaped_utf8 text u) (ascii_first 34 _ (omega arith) IsUtf8-nil))

margin_utf8 : (n : ℕ) (rest : List ℕ) → IsUtf8 rest → IsUtf8 (margin n rest)
margin_utf8 zero rest u = u
margin_utf8 (suc n) rest u = ascii_first 32 _ (omega arith) (ascii_first 32 _ (omega arith) (margin_utf8 n rest u))

line_utf8 : (n : ℕ) (rest : List ℕ) → IsUtf8 rest → IsUtf8 (line n rest)
line_utf8 n rest u = ascii_first 10 _ (omega arith) (margin_utf8 n rest u)

two_bytes : (b c : ℕ) (rest : List ℕ) → b < 128 → c < 128 → IsUtf8 rest → IsUtf8 (b ∷ c ∷ rest)
two_bytes b c rest l m u = ascii_first b _ l (ascii_first c _ m u)

name_utf8 : (name rest : List ℕ) → IsUtf8 name → IsUtf8 rest → IsUtf8 (quoted name ++ (codes ": " ++ rest))
name_utf8 name rest n u = IsUtf8-append _ _ (quoted_utf8 name n) (two_bytes 58 32 rest (omega arith) (omega arith) u)

pub number_utf8 : (number rest : List ℕ) → IsNumber number → IsUtf8 rest → IsUtf8 (number ++ rest)
number_utf8 number rest is u = go number (number_bytes number is)
  where
    go : (text : List ℕ) → All IsNumberByte text → IsUtf8 (text ++ rest)
    go [] all = u
    go (b ∷ text) all = ascii_first b (text ++ rest) (byte_low b (All-head IsNumberByte b text all)) (go text (All-tail IsNumberByte b text all))

mutual
  pub printed_utf8 : (depth n : ℕ) (v : Json) (rest : List ℕ) → IsPrintable depth v → IsUtf8 rest → IsUtf8 (printed n v rest)
  printed_utf8 depth n a_null rest p u = two_bytes 110 117 _ (omega arith) (omega arith) (two_bytes 108 108 rest (omega arith) (omega arith) u)
  printed_utf8 depth n (a_bool true) rest p u = two_bytes 116 114 _ (omega arith) (omega arith) (two_bytes 117 101 rest (omega arith) (omega arith) u)
  printed_utf8 depth n (a_bool false) rest p u = ascii_first 102 _ (omega arith) (two_bytes 97 108 _ (omega arith) (omega arith) (two_bytes 115 101 rest (omega arith) (omega arith) u))
  printed_utf8 depth n (a_number number) rest p u = number_utf8 number rest p u
  printed_utf8 depth n (a_text text) rest p u = IsUtf8-append _ _ (quoted_utf8 text p) u
  printed_utf8 zero n (a_list vs) rest p u = absurd p
  printed_utf8 zero n (an_object ms) rest p u = absurd p
  printed_utf8 (suc depth) n (a_list no_items) rest p u = two_bytes 91 93 rest (omega arith) (omega arith) u
  printed_utf8 (suc depth) n (a_list (an_item v more)) rest p u =
      let end = line_utf8 n (93 ∷ rest) (ascii_first 93 rest (omega arith) u) in
      ascii_first 91 _ (omega arith) (line_utf8 (suc n) _ (printed_utf8 depth (suc n) v _ p.0 (items_utf8 depth (suc n) more _ p.1 end)))
  printed_utf8 (suc depth) n (an_object no_members) rest p u = two_bytes 123 125 rest (omega arith) (omega arith) u
  printed_utf8 (suc depth) n (an_object (a_member name v more)) rest p u =
      let end = line_utf8 n (125 ∷ rest) (ascii_first 125 rest (omega arith) u) in
      ascii_first 123 _ (omega arith) (line_utf8 (suc n) _ (name_utf8 name _ p.1.0 (printed_utf8 depth (suc n) v _ p.1.1 (members_utf8 depth (suc n) more _ p.1.2 end))))

  items_utf8 : (depth n : ℕ) (vs : Items) (rest : List ℕ) → ArePrintable depth vs → IsUtf8 rest → IsUtf8 (printed_items n vs rest)
  items_utf8 depth n no_items rest p u = u
  items_utf8 depth n (an_item v more) rest p u = ascii_first 44 _ (omega arith) (line_utf8 n _ (printed_utf8 depth n v _ p.0 (items_utf8 depth n more rest p.1 u)))

  members_utf8 : (depth n : ℕ) (ms : Members) (rest : List ℕ) → MembersArePrintable depth ms → IsUtf8 rest → IsUtf8 (printed_members n ms rest)
  members_utf8 depth n no_members rest p u = u
  members_utf8 depth n (a_member name v more) rest p u = ascii_first 44 _ (omega arith) (line_utf8 n _ (name_utf8 name _ p.0 (printed_utf8 depth n v _ p.1 (members_utf8 depth n more rest p.2 u))))

pub text_utf8 : (depth : ℕ) (v : Json) → IsPrintable depth v → IsUtf8 (printed_text v)
text_utf8 depth v p = printed_utf8 depth 0 v (10 ∷ []) p (ascii_first 10 [] (omega arith) IsUtf8-nil)
