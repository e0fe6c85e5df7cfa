-- Characters of a module text by their bytes in UTF-8: white space, line ends, and those of names. ECMA-262, 12.2,
-- 12.3 and 12.7.
--     space_size bytes      how many bytes of white space or of a line end stand at the front: those of one
--                           character, or none
--     name_size bytes       the same for a character of a name
use lib.Utf8.{scalar}
use Rattle.std.specs.Prelude.{ℕ, zero, suc, ◌+◌, ◌-◌, ◌*◌, ◌%◌, Bool, false, not, ◌&&◌, ◌||◌, ◌==◌, nat_le, nat_lt}
use Rattle.std.specs.Prelude.{List, [], ◌∷◌, if◌then◌else◌, slice_index}
use Rattle.std.specs.Char.{is_ascii_digit}
use Rattle.ucd_category.specs.GeneralCategory.{general_category, general_category_eq}
use Rattle.ucd_category.specs.declared.GeneralCategory.TheVariants.{SpaceSeparator}

-- RFC 3629, 3: how many bytes a character has, by its first one
abbrev pub character_size : ℕ → ℕ
character_size b = if nat_lt b 128 then 1 else if nat_lt b 224 then 2 else if nat_lt b 240 then 3 else 4

-- RFC 3629, 3: the number of the character at the front
abbrev pub code_point : List ℕ → ℕ
code_point [] = 0
code_point (b ∷ rest) =
    if nat_lt b 128 then b
    else if nat_lt b 224 then b % 32 * 64 + slice_index rest 0 % 64
    else if nat_lt b 240 then b % 16 * 4096 + slice_index rest 0 % 64 * 64 + slice_index rest 1 % 64
    else b % 8 * 262144 + slice_index rest 0 % 64 * 4096 + slice_index rest 1 % 64 * 64 + slice_index rest 2 % 64

-- Unicode, 4.5: a character of category Zs
unfoldable pub is_space_separator : ℕ → Bool
is_space_separator code = scalar code && general_category_eq (general_category code) SpaceSeparator

-- ECMA-262, 12.2 and 12.3: TAB, VT, FF and space, LF and CR
abbrev pub is_ascii_space : ℕ → Bool
is_ascii_space b = b == 32 || b == 9 || b == 10 || b == 13 || b == 11 || b == 12

-- ECMA-262, 12.3: U+2028 and U+2029
abbrev pub is_wide_line_end : ℕ → Bool
is_wide_line_end code = code == 8232 || code == 8233

-- ECMA-262, 12.2 and 12.3, past ASCII: U+FEFF and category Zs, and the line ends
abbrev pub is_wide_space : ℕ → Bool
is_wide_space code = code == 65279 || is_wide_line_end code || is_space_separator code

-- ECMA-262, 12.3: a line end stands at the front
abbrev pub begins_line_end : List ℕ → Bool
begins_line_end [] = false
begins_line_end (b ∷ rest) = if nat_lt b 128 then b == 10 || b == 13 else is_wide_line_end (code_point (b ∷ rest))

-- ECMA-262, 12.2 and 12.3
abbrev pub space_size : List ℕ → ℕ
space_size [] = 0
space_size (b ∷ rest) =
    if nat_lt b 128 then (if is_ascii_space b then 1 else 0)
    else if is_wide_space (code_point (b ∷ rest)) then character_size b
    else 0

-- ECMA-262, 12.9.3: a digit of base 16, in either case
abbrev pub is_hex_digit : ℕ → Bool
is_hex_digit b = is_ascii_digit b || nat_le 97 b && nat_le b 102 || nat_le 65 b && nat_le b 70

-- how many stand at the front
abbrev pub hex_digits : List ℕ → ℕ
hex_digits [] = 0
hex_digits (b ∷ rest) = if is_hex_digit b then suc (hex_digits rest) else 0

-- own: of ECMA-262, 12.9.4, `\u{` and one to six digits and `}`, by what stands behind the opening brace
abbrev pub braced_size : List ℕ → ℕ
braced_size rest =
    let digits = hex_digits rest in
    if nat_le 1 digits && nat_le digits 6 && slice_index rest digits == 125 then digits + 4 else 0

-- ECMA-262, 12.9.4: `\u` and four digits, or the form with braces, by what stands behind the `u`
abbrev pub unicode_size : List ℕ → ℕ
unicode_size [] = 0
unicode_size (b ∷ rest) = if b == 123 then braced_size rest else if nat_le 4 (hex_digits (b ∷ rest)) then 6 else 0

-- ECMA-262, 12.7: the escapes of names, by what stands behind the `\`
abbrev pub escape_size : List ℕ → ℕ
escape_size [] = 0
escape_size (b ∷ rest) = if b == 117 then unicode_size rest else 0

-- ECMA-262, 12.7: letters, digits, `$` and `_`
abbrev pub is_name_byte : ℕ → Bool
is_name_byte b = nat_le 97 b && nat_le b 122 || nat_le 65 b && nat_le b 90 || is_ascii_digit b || b == 95 || b == 36

-- own: of ECMA-262, 12.7, past ASCII each character that is no white space and no line end, and an escape whatever it
-- stands for
unfoldable pub name_size : List ℕ → ℕ
name_size [] = 0
name_size (b ∷ rest) =
    if is_name_byte b then 1
    else if b == 92 then escape_size rest
    else if nat_lt b 128 then 0
    else if is_wide_space (code_point (b ∷ rest)) then 0
    else character_size b

-- an ASCII digit stands at the front
abbrev pub begins_digit : List ℕ → Bool
begins_digit [] = false
begins_digit (b ∷ rest) = is_ascii_digit b

-- ECMA-262, 12.7: a name begins with a character of names that is no digit
abbrev pub begins_name : List ℕ → Bool
begins_name bytes = not (begins_digit bytes) && not (name_size bytes == 0)

-- the bytes behind k of them and then behind all pieces that follow, each as long as `size` says at its place
abbrev pub passed : (List ℕ → ℕ) → ℕ → List ℕ → List ℕ
passed size k [] = []
passed size (suc k) (b ∷ rest) = passed size k rest
passed size zero (b ∷ rest) = if size (b ∷ rest) == 0 then b ∷ rest else passed size (size (b ∷ rest) - 1) rest

-- ECMA-262, 12.7: behind the characters of names that stand at the front
abbrev pub name_rest : List ℕ → List ℕ
name_rest bytes = passed (λ more. name_size more) 0 bytes
