-- Strings. RFC 8259, 7 and 8.2.
--     ReadsString bytes out      what a string is whose opening quote stands before the bytes
--     ReadsText bytes out      the same, whether its text is UTF-8 or not
--     escape_at bytes      the character of the escape whose `\` stands before the bytes
use Rattle.std.specs.Prelude.{ℕ, ◌||◌, ◌==◌, if◌then◌else◌, Option, Some, None, ◌-◌, ◌&&◌, nat_le, zero, suc, ◌+◌, ◌*◌}
use Rattle.std.specs.Prelude.{List, [], ◌∷◌, encode_utf8, ◌≡◌, ◌<◌, ◌≤◌, ◌≢◌, IsUtf8}
use Rattle.std.specs.Char.Utf16.{is_high_surrogate, is_low_surrogate, surrogate_pair_char}
use Rattle.json_spec.specs.Taken.{refused, Read, taken, and_then, behind_piece}

-- RFC 8259, 7: the character that a `\` and one character stand for
abbrev pub short_escape : ℕ → Option ℕ
short_escape b =
    if b == 34 || b == 92 || b == 47 then Some b
    else if b == 98 then Some 8
    else if b == 102 then Some 12
    else if b == 110 then Some 10
    else if b == 114 then Some 13
    else if b == 116 then Some 9
    else None

-- RFC 8259, 7: a hexadecimal digit, in either case
abbrev pub hex_value : ℕ → Option ℕ
hex_value b =
    if nat_le 48 b && nat_le b 57 then Some (b - 48)
    else if nat_le 65 b && nat_le b 70 then Some (b - 55)
    else if nat_le 97 b && nat_le b 102 then Some (b - 87)
    else None

-- what the option holds, with the bytes after it
abbrev pub taken_from : {A B : Type 0} → Option A → (A → Read B) → Read B
taken_from None next = refused tt
taken_from (Some x) next = next x

-- n hexadecimal digits, behind others whose value is v
abbrev pub hex_digits : ℕ → ℕ → List ℕ → Read ℕ
hex_digits zero v bytes = taken v bytes
hex_digits (suc n) v [] = refused tt
hex_digits (suc n) v (b ∷ bytes) = taken_from (hex_value b) (λ d. hex_digits n (v * 16 + d) bytes)

-- RFC 8259, 7: the number that four hexadecimal digits spell
abbrev pub four_digits : List ℕ → Read ℕ
four_digits bytes = hex_digits 4 0 bytes

-- the bytes behind a text that they begin with
abbrev pub behind : List ℕ → List ℕ → Option (List ℕ)
behind [] bytes = Some bytes
behind (f ∷ front) [] = None
behind (f ∷ front) (b ∷ bytes) = if f == b then behind front bytes else None

-- RFC 8259, 7: the character of a surrogate pair. own: a surrogate that is no half of one is refused
abbrev pub second_half : ℕ → ℕ → List ℕ → Read (List ℕ)
second_half high low rest =
    if is_low_surrogate low then taken (encode_utf8 (surrogate_pair_char high low)) rest else refused tt

-- RFC 8259, 7: the character, in UTF-8, of a `\u` and digits whose number is n; behind a high surrogate the escape of a
-- low one has to follow
abbrev pub unicode_character : ℕ → List ℕ → Read (List ℕ)
unicode_character n rest =
    if is_high_surrogate n
    then taken_from (behind (92 ∷ 117 ∷ []) rest) (λ more. and_then (four_digits more) (second_half n))
    else if is_low_surrogate n then refused tt
    else taken (encode_utf8 n) rest

-- RFC 8259, 7: an escape, `u` and digits or one character
abbrev pub escape_at : List ℕ → Read (List ℕ)
escape_at [] = refused tt
escape_at (b ∷ bytes) =
    if b == 117 then and_then (four_digits bytes) unicode_character
    else taken_from (short_escape b) (λ c. taken (c ∷ []) bytes)

-- RFC 8259, 7: a string up to its closing quote, where each other byte from U+0020 on but `\` stands for itself
pub data ReadsText : List ℕ → Read (List ℕ) → Type 0 where
  close : {rest : List ℕ} → ReadsText (34 ∷ rest) (taken [] rest)
  plain :
      {b : ℕ} {bytes : List ℕ} {out : Read (List ℕ)} → b ≢ 34 → b ≢ 92 → 32 ≤ b → ReadsText bytes out
      → ReadsText (b ∷ bytes) (behind_piece (b ∷ []) out)
  escape :
      {bytes piece middle : List ℕ} {out : Read (List ℕ)} → escape_at bytes ≡ taken piece middle → ReadsText middle out
      → ReadsText (92 ∷ bytes) (behind_piece piece out)
  no_escape : {bytes : List ℕ} → escape_at bytes ≡ refused tt → ReadsText (92 ∷ bytes) (refused tt)
  control : {b : ℕ} {bytes : List ℕ} → b < 32 → ReadsText (b ∷ bytes) (refused tt)
  text_ends : ReadsText [] (refused tt)

-- RFC 8259, 7 and 8.1: a string whose text is UTF-8. An escape gives whole characters, so the text is UTF-8 exactly
-- where the bytes between the quotes are
pub data ReadsString : List ℕ → Read (List ℕ) → Type 0 where
  in_utf8 :
      {bytes text rest : List ℕ} → ReadsText bytes (taken text rest) → IsUtf8 text → ReadsString bytes (taken text rest)
  no_utf8 :
      {bytes text rest : List ℕ} → ReadsText bytes (taken text rest) → (IsUtf8 text → ⊥)
      → ReadsString bytes (refused tt)
  no_string : {bytes : List ℕ} → ReadsText bytes (refused tt) → ReadsString bytes (refused tt)
