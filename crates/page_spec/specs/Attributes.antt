-- The attributes of a start tag. HTML Standard, 13.2.5.32 to 13.2.5.39.
--     before is_end bytes          the bytes up to the first one that ends them
--     behind is_end bytes          that byte and those behind it
--     skip_whitespace bytes        the bytes without the white space at their front
--     Value                        an attribute's value: its text, and the tag's bytes from the value's begin on
--     value text tail              the value of this text and tail
--     ends_unquoted byte           the byte ends a value without quotes: white space, or `>`
--     ends_attribute_name byte     the byte ends an attribute's name: white space, `/`, `>` or `=`
--     is_in_name state             the state is that within an attribute's name
--     begins_attribute state byte  an attribute's name begins with the byte
--     attributes state bytes       the attributes in the rest of a tag, in order
--     first_named name attributes  the value of the first of these attributes that has the name, in upper or
--                                  lower case
--     attribute name text          the value of the first attribute of that name in the tag; names are compared in
--                                  lower case
--     attribute_text name text     its text
-- own: character references in values aren't decoded.
use Rattle.std.specs.Char.{is_ascii_whitespace}
use Rattle.std.specs.Prelude.{ℕ, Bool, true, false, not, ◌&&◌, ◌||◌, ◌==◌, List, [], ◌∷◌, if◌then◌else◌, Option, Some}
use Rattle.std.specs.Prelude.{None, option_map, drop, bytes_eq}
use Rattle.page_spec.specs.declared.kinds.State.{State}
use Rattle.page_spec.specs.declared.kinds.State.TheVariants.{TagOpen, AttributeName}
use Rattle.page_spec.specs.Tokenizer.{lowered, is_last, next_state}
use Rattle.page_spec.specs.Pieces.{ends_name}

abbrev pub before : (ℕ → Bool) → List ℕ → List ℕ
before is_end [] = []
before is_end (b ∷ rest) = if is_end b then [] else b ∷ before is_end rest

abbrev pub behind : (ℕ → Bool) → List ℕ → List ℕ
behind is_end [] = []
behind is_end (b ∷ rest) = if is_end b then b ∷ rest else behind is_end rest

abbrev pub skip_whitespace : List ℕ → List ℕ
skip_whitespace = behind (λ b. not (is_ascii_whitespace b))

pub record Value : Type 0 where
  pub text : List ℕ
  pub tail : List ℕ

abbrev pub value : List ℕ → List ℕ → Value
value t r = record { text = t; tail = r }

abbrev pub ends_unquoted : ℕ → Bool
ends_unquoted b = is_ascii_whitespace b || b == 62

-- the value behind its `=` and white space
abbrev pub value_at : List ℕ → Value
value_at [] = value [] []
value_at (b ∷ rest) =
    if b == 34 || b == 39 then value (before (λ c. c == b) rest) rest
    else value (before ends_unquoted (b ∷ rest)) (b ∷ rest)

-- the value of an attribute whose name ends before `tail`, `bytes` being the tail without white space
abbrev pub value_behind : List ℕ → List ℕ → Value
value_behind tail [] = value [] tail
value_behind tail (b ∷ rest) = if b == 61 then value_at (skip_whitespace rest) else value [] tail

abbrev pub ends_attribute_name : ℕ → Bool
ends_attribute_name b = ends_name b || b == 61

-- an attribute: its name as it is written, and its value
pub record Attribute : Type 0 where
  pub name : List ℕ
  pub value : Value

-- the attribute whose name begins with b
abbrev pub attribute_at : ℕ → List ℕ → Attribute
attribute_at b rest =
    let tail = behind ends_attribute_name rest in
    record { name = b ∷ before ends_attribute_name rest; value = value_behind tail (skip_whitespace tail) }

abbrev pub is_in_name : State → Bool
is_in_name AttributeName = true
is_in_name other = false

abbrev pub begins_attribute : State → ℕ → Bool
begins_attribute state b = is_in_name (next_state state b) && not (is_in_name state)

abbrev pub attributes : State → List ℕ → List Attribute
attributes state [] = []
attributes state (b ∷ rest) =
    if is_last state b then []
    else if begins_attribute state b then attribute_at b rest ∷ attributes (next_state state b) rest
    else attributes (next_state state b) rest

abbrev pub first_named : List ℕ → List Attribute → Option Value
first_named name [] = None
first_named name (a ∷ more) = if bytes_eq (lowered a.name) (lowered name) then Some a.value else first_named name more

unfoldable pub attribute : List ℕ → List ℕ → Option Value
attribute name text = first_named name (attributes TagOpen (drop 1 text))

abbrev pub attribute_text : List ℕ → List ℕ → Option (List ℕ)
attribute_text name text = option_map (λ value. value.text) (attribute name text)
