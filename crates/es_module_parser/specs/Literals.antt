-- How the parser reads a string literal. Characters are told by their numbers.
use Rattle.std.specs.Prelude.{◌≡◌, ◌≤◌, ◌<◌, ℕ, zero, suc, ◌*◌, true, List, [], ◌∷◌, ◌++◌, Option, Some, None}
use Rattle.std.specs.Prelude.{option_map, drop, length}
use Rattle.std.specs.Str.{encode_utf8_all}
use Rattle.module_spec.specs.Characters.{is_hex_digit, hex_digits}
use Rattle.module_spec.specs.StringValues.{Element, hex_value, hex_number, braced_escape, unicode_escape, hex_escape}
use Rattle.std.specs.Char.Utf16.{is_high_surrogate}
use Rattle.module_spec.specs.StringValues.{escape, elements, code_points}
use Rattle.module_spec.specs.StringValues.Element.{unit, nothing, wrong}
use Rattle.es_module_parser.specs.declared.literals.Waiting.{Waiting}
use Rattle.es_module_parser.specs.declared.literals.Waiting.TheVariants.{Nothing, High, Alone}

-- the numbers of so many digits of base 16 are below this
abbrev pub sixteens : ℕ → ℕ
sixteens zero = 1
sixteens (suc count) = sixteens count * 16

-- a unit, or a line end that is passed over
abbrev pub element_of : Option ℕ → Element
element_of None = nothing
element_of (Some code) = unit code

-- what was found adds this, and behind the characters that belong to it stands the rest
pub record IsPart (found : ℕ × Element) (characters : List ℕ) (added : Option ℕ) (rest : List ℕ) : Type 0 where
  pub adds : found.1 ≡ element_of added
  pub behind : rest ≡ drop found.0 characters

-- what the reader of a literal finds, and where it finds nothing
abbrev pub IsDigit : ℕ → ℕ → Type 0
IsDigit c value = (is_hex_digit c ≡ true) × (value ≡ hex_value c) × (value < 16)

abbrev pub IsFront : List ℕ → List ℕ → Type 0
IsFront front characters = (last : ℕ) × (characters ≡ front ++ last ∷ [])

abbrev pub NoNumber : ℕ → List ℕ → Type 0
NoNumber count characters = hex_number 0 count characters ≡ None

abbrev pub IsNumber : ℕ → List ℕ → ℕ → List ℕ → Type 0
IsNumber count characters value rest = (hex_number 0 count characters ≡ Some value) × (rest ≡ drop count characters)

abbrev pub IsCount : List ℕ → ℕ → Type 0
IsCount characters count = (count ≡ hex_digits characters) × (count ≤ 6)

abbrev pub NoBraced : List ℕ → Type 0
NoBraced characters = (braced_escape characters).1 ≡ wrong

abbrev pub IsBraced : List ℕ → Option ℕ → List ℕ → Type 0
IsBraced characters added rest = IsPart (braced_escape characters) (117 ∷ 123 ∷ characters) added rest

abbrev pub NoUnicode : List ℕ → Type 0
NoUnicode characters = (unicode_escape characters).1 ≡ wrong

abbrev pub IsUnicode : List ℕ → Option ℕ → List ℕ → Type 0
IsUnicode characters added rest = IsPart (unicode_escape characters) (117 ∷ characters) added rest

abbrev pub NoHex : List ℕ → Type 0
NoHex characters = (hex_escape characters).1 ≡ wrong

abbrev pub IsHex : List ℕ → Option ℕ → List ℕ → Type 0
IsHex characters added rest = IsPart (hex_escape characters) (120 ∷ characters) added rest

abbrev pub NoEscape : List ℕ → Type 0
NoEscape characters = (escape characters).1 ≡ wrong

abbrev pub IsEscape : List ℕ → Option ℕ → List ℕ → Type 0
IsEscape characters added rest = IsPart (escape characters) characters added rest

abbrev pub NoElement : ℕ → List ℕ → Type 0
NoElement first characters = (more : List Element) × (elements zero (first ∷ characters) ≡ wrong ∷ more)

abbrev pub IsElement : ℕ → List ℕ → Option ℕ → List ℕ → Type 0
IsElement first characters added rest =
    (elements zero (first ∷ characters) ≡ element_of added ∷ elements zero rest) × (length rest ≤ length characters)

-- a text, and then the characters
abbrev pub behind_text : List ℕ → Option (List ℕ) → Option (List ℕ)
behind_text text found = option_map (λ characters. text ++ encode_utf8_all characters) found

-- the value, by the text so far, what waits behind it, and what is to come
abbrev pub settled : List ℕ → Waiting → List Element → Option (List ℕ)
settled text Nothing more = behind_text text (code_points None more)
settled text (High code) more = behind_text text (code_points (Some code) more)
settled text Alone more = None

-- the text and what waits behind it, before and after an element
abbrev pub IsAdded : List ℕ → Waiting → Element → List ℕ → Waiting → Type 0
IsAdded text waiting element new waits =
    (more : List Element) → settled text waiting (element ∷ more) ≡ settled new waits more

abbrev pub IsWaiting : Waiting → Type 0
IsWaiting Nothing = Unit {0}
IsWaiting (High code) = is_high_surrogate code ≡ true
IsWaiting Alone = Unit {0}

-- the value of what stands between the quotes
abbrev pub inside_value : List ℕ → Option (List ℕ)
inside_value characters = option_map encode_utf8_all (code_points None (elements zero characters))
