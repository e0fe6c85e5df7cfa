-- What the scanners inside one token answer.
--     Cut out bytes rest      the reader's answer out is that it took the bytes up to rest, and what it took is UTF-8
--     CutBy reader bytes rest      the same of the reader's answer to the bytes
--     IsCharacter out character rest      the answer is that it took what stands for the character
--     unicode_at bytes      the character of the escapes whose `u` stands before the bytes
--     NoEscape bytes, NoUnicode bytes, NoNumber bytes      there is none
--     IsUnit bytes unit rest      the bytes begin with four hexadecimal digits, whose value is the unit
--     IsNumberAt bytes number rest      the number at the front of the bytes
--     letter_at bytes      the `e` of an exponent
--     NoString bytes, NoText bytes      there is none
--     TakesString bytes text rest, TakesText bytes text rest      a string behind its opening quote, and the same
--         whether it is UTF-8 or not
--     IsTextOf bytes text      the text of bytes that are UTF-8
--     after_plain bytes      the bytes from the first on that ends the plain part of a string
use Rattle.std.specs.Prelude.{◌≡◌, ◌<◌, ℕ, suc, ◌+◌, ◌*◌, Bool, ◌&&◌, ◌||◌, ◌==◌, nat_le, not, List, [], ◌∷◌, ◌++◌}
use Rattle.std.specs.Prelude.{length, IsUtf8, if◌then◌else◌, encode_utf8}
use Rattle.json_spec.specs.Taken.{taken, refused, Read, and_then}
use Rattle.json_spec.specs.Numbers.{number_at, one_of}
use Rattle.json_spec.specs.Strings.{hex_digits, four_digits, unicode_character, escape_at, ReadsText, ReadsString}

pub record Cut (out : Read (List ℕ)) (bytes rest : List ℕ) : Type 0 where
  pub piece : List ℕ
  pub took : out ≡ taken piece rest
  pub split : bytes ≡ piece ++ rest
  pub utf8 : IsUtf8 piece

abbrev pub CutBy : (List ℕ → Read (List ℕ)) → List ℕ → List ℕ → Type 0
CutBy reader bytes rest = Cut (reader bytes) bytes rest

abbrev pub IsCharacter : Read (List ℕ) → ℕ → List ℕ → Type 0
IsCharacter out character rest = out ≡ taken (encode_utf8 character) rest

abbrev pub unicode_at : List ℕ → Read (List ℕ)
unicode_at bytes = and_then (four_digits bytes) unicode_character

abbrev pub IsUnit : List ℕ → ℕ → List ℕ → Type 0
IsUnit bytes unit rest = (four_digits bytes ≡ taken unit rest) × (unit < 65536)

abbrev pub NoEscape : List ℕ → Type 0
NoEscape bytes = escape_at bytes ≡ refused tt

abbrev pub NoUnicode : List ℕ → Type 0
NoUnicode bytes = unicode_at bytes ≡ refused tt

abbrev pub NoNumber : List ℕ → Type 0
NoNumber bytes = number_at bytes ≡ refused tt

abbrev pub IsNumberAt : List ℕ → List ℕ → List ℕ → Type 0
IsNumberAt bytes number rest = number_at bytes ≡ taken number rest

abbrev pub letter_at : List ℕ → Read (List ℕ)
letter_at bytes = one_of (λ b. b == 101 || b == 69) bytes

abbrev pub NoString : List ℕ → Type 0
NoString bytes = ReadsString bytes (refused tt)

abbrev pub NoText : List ℕ → Type 0
NoText bytes = ReadsText bytes (refused tt)

abbrev pub TakesString : List ℕ → List ℕ → List ℕ → Type 0
TakesString bytes text rest = ReadsString bytes (taken text rest) × (length rest < length bytes)

abbrev pub TakesText : List ℕ → List ℕ → List ℕ → Type 0
TakesText bytes text rest = ReadsText bytes (taken text rest) × (length rest < length bytes)

abbrev pub IsTextOf : List ℕ → List ℕ → Type 0
IsTextOf bytes text = IsUtf8 bytes × (text ≡ bytes)

-- a byte that stands for itself in a string
abbrev pub is_plain : ℕ → Bool
is_plain b = not (b == 34) && (not (b == 92) && nat_le 32 b)

abbrev pub after_plain : List ℕ → List ℕ
after_plain [] = []
after_plain (b ∷ bytes) = if is_plain b then after_plain bytes else b ∷ bytes

-- a hexadecimal digit's value, whatever digits are still wanted behind it
pub record IsDigit (bytes : List ℕ) (digit : ℕ) (rest : List ℕ) : Type 0 where
  pub next : (n v : ℕ) → hex_digits (suc n) v bytes ≡ hex_digits n (v * 16 + digit) rest

pub record IsNoDigit (bytes : List ℕ) : Type 0 where
  pub stops : (n v : ℕ) → hex_digits (suc n) v bytes ≡ refused tt
