-- The printed form of a string. RFC 8259, 7, leaves a choice of spelling, and this is the one that is written.
--     quoted text      the printed string with its quotes
--     escaped text      the printed string without them
use Rattle.std.specs.List.{flat_map}
use Rattle.std.specs.Prelude.{ℕ, ◌+◌, nat_lt, if◌then◌else◌, ◌/◌, ◌%◌, List, [], ◌∷◌, ◌||◌, ◌==◌, ◌++◌}

-- own: a hexadecimal digit is a lower case one
abbrev pub hex_digit : ℕ → ℕ
hex_digit n = if nat_lt n 10 then 48 + n else 87 + n

-- RFC 8259, 7: a character as `\u` and four digits, where two of them are 0
abbrev pub unicode_escape : ℕ → List ℕ
unicode_escape b = 92 ∷ 117 ∷ 48 ∷ 48 ∷ hex_digit (b / 16) ∷ hex_digit (b % 16) ∷ []

-- own: `"` and `\` stand behind a `\`, a character below U+0020 and `<` as `\u` and digits, every other one as it is
abbrev pub escaped_byte : ℕ → List ℕ
escaped_byte b = if b == 34 || b == 92 then 92 ∷ b ∷ [] else if nat_lt b 32 || b == 60 then unicode_escape b else b ∷ []

abbrev pub escaped : List ℕ → List ℕ
escaped text = flat_map escaped_byte text

-- RFC 8259, 7: a string stands between quotes
abbrev pub quoted : List ℕ → List ℕ
quoted text = 34 ∷ (escaped text ++ 34 ∷ [])
