-- The value of a string literal. ECMA-262, 12.9.4.2, and 11.1.3 to 11.1.5 for its surrogates.
--     string_value literal      the text, in UTF-8, that the literal with its quotes stands for; none where it holds
--                               a wrong escape or a surrogate that is no half of a pair
--     escape characters      what the `\` before these characters begins, and how many of them belong to it
-- Characters are told by their numbers.
use lib.Utf8.{scalar}
use Rattle.std.specs.Prelude.{ℕ, zero, suc, ◌+◌, ◌-◌, ◌*◌, Bool, false, not, ◌&&◌, ◌||◌, ◌==◌, nat_le, List, []}
use Rattle.std.specs.Prelude.{◌∷◌, if◌then◌else◌, Option, Some, None, option_map, slice_index, take, drop, length}
use Rattle.std.specs.Str.{chars, encode_utf8_all}
use Rattle.std.specs.Char.{is_ascii_digit}
use Rattle.std.specs.Char.Utf16.{is_high_surrogate, is_low_surrogate, surrogate_pair_char}
use Rattle.module_spec.specs.Characters.{begins_digit, is_hex_digit, hex_digits, is_wide_line_end}

-- what a character or an escape adds: a code unit, or a character that needs two of them; nothing; or the literal is
-- wrong
pub data Element : Type 0 where
  unit : ℕ → Element
  nothing : Element
  wrong : Element

-- ---- escapes

-- ECMA-262, 12.9.3, MV of HexDigit
abbrev pub hex_value : ℕ → ℕ
hex_value c = if nat_le c 57 then c - 48 else if nat_le c 70 then c - 55 else c - 87

-- the number that the first digits of base 16 write, behind others; none where there are fewer
abbrev pub hex_number : ℕ → ℕ → List ℕ → Option ℕ
hex_number so_far zero characters = Some so_far
hex_number so_far (suc count) [] = None
hex_number so_far (suc count) (c ∷ rest) =
    if is_hex_digit c then hex_number (so_far * 16 + hex_value c) count rest else None

-- an escape of so many characters behind its `\`, where its digits write a number
abbrev pub escape_of : ℕ → Option ℕ → ℕ × Element
escape_of size None = (0, wrong)
escape_of size (Some code) = (size, unit code)

-- own: of CodePoint, one to six digits
abbrev pub braced_escape : List ℕ → ℕ × Element
braced_escape rest =
    let digits = hex_digits rest in
    if nat_le 1 digits && nat_le digits 6 && slice_index rest digits == 125
    then escape_of (digits + 3) (hex_number 0 digits rest) else (0, wrong)

-- UnicodeEscapeSequence, behind its `u`
abbrev pub unicode_escape : List ℕ → ℕ × Element
unicode_escape [] = (0, wrong)
unicode_escape (c ∷ rest) = if c == 123 then braced_escape rest else escape_of 5 (hex_number 0 4 (c ∷ rest))

-- HexEscapeSequence, behind its `x`
abbrev pub hex_escape : List ℕ → ℕ × Element
hex_escape rest = escape_of 3 (hex_number 0 2 rest)

-- SingleEscapeCharacter and NonEscapeCharacter
abbrev pub escaped_character : ℕ → ℕ
escaped_character c =
    if c == 98 then 8
    else if c == 116 then 9
    else if c == 110 then 10
    else if c == 118 then 11
    else if c == 102 then 12
    else if c == 114 then 13
    else c

-- LF stands at the front
abbrev pub begins_line_feed : List ℕ → Bool
begins_line_feed [] = false
begins_line_feed (c ∷ rest) = c == 10

-- EscapeSequence without those of 12.9.4.1, or LineContinuation
abbrev pub escape : List ℕ → ℕ × Element
escape [] = (0, wrong)
escape (c ∷ rest) =
    if c == 117 then unicode_escape rest
    else if c == 120 then hex_escape rest
    else if c == 48 && not (begins_digit rest) then (1, unit 0)
    else if is_ascii_digit c then (0, wrong)
    else if c == 13 then ((if begins_line_feed rest then 2 else 1), nothing)
    else if c == 10 || is_wide_line_end c then (1, nothing)
    else (1, unit (escaped_character c))

-- ---- the whole literal

-- what these characters add, behind so many that belong to an escape before them
abbrev pub elements : ℕ → List ℕ → List Element
elements (suc count) [] = []
elements zero [] = []
elements (suc count) (c ∷ rest) = elements count rest
elements zero (c ∷ rest) =
    if c == 92 then (escape rest).1 ∷ elements (escape rest).0 rest else unit c ∷ elements zero rest

-- the characters that come behind this one, with it at their front; none stays none
abbrev pub behind_character : ℕ → Option (List ℕ) → Option (List ℕ)
behind_character c None = None
behind_character c (Some rest) = Some (c ∷ rest)

-- ECMA-262, 11.1.3 and 11.1.4: the characters that the elements come to, behind a high surrogate that waits for the
-- low one. Own: none where a surrogate is alone, or where a number is above that of every character
abbrev pub code_points : Option ℕ → List Element → Option (List ℕ)
code_points None [] = Some []
code_points (Some high) [] = None
code_points None (nothing ∷ rest) = code_points None rest
code_points (Some high) (nothing ∷ rest) = code_points (Some high) rest
code_points None (wrong ∷ rest) = None
code_points (Some high) (wrong ∷ rest) = None
code_points None (unit c ∷ rest) =
    if is_high_surrogate c then code_points (Some c) rest
    else if scalar c then behind_character c (code_points None rest)
    else None
code_points (Some high) (unit c ∷ rest) =
    if is_low_surrogate c then behind_character (surrogate_pair_char high c) (code_points None rest) else None

-- what stands between the first character and the last one
abbrev pub between_quotes : List ℕ → List ℕ
between_quotes characters = take (length characters - 2) (drop 1 characters)

unfoldable pub string_value : List ℕ → Option (List ℕ)
string_value literal = option_map encode_utf8_all (code_points None (elements zero (between_quotes (chars literal))))
