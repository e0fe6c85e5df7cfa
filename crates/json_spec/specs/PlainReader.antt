-- A plain reader of JSON texts: a slow program, whose law is that it answers what `ReadsJson` has, and nothing else.
--     read_json bytes      the value of a text, or its first fault
--     read_value depth n bytes      the value at the front of the bytes, in which depth brackets may be open at once
--     read_items, read_members      the values of a list and the members of an object, behind the opening bracket and
--         space
--     read_member, read_name      a name with its value, and a name with its colon
--     read_string, read_text      a string behind its opening quote, and the same whether its text is UTF-8 or not
-- The number n is one that the count of the bytes stays below. Each choice by a byte is a function of its own, which
-- takes what the test said.
use Rattle.std.specs.Prelude.{ℕ, Bool, true, false, List, [], ◌∷◌, nat_lt, ◌==◌, zero, suc, length, Result}
use Rattle.std.specs.Str.{is_utf8}
use Rattle.json_spec.specs.Grammar.{Fault, TooDeep, Reading, after_space, fault_here, text_behind, colon_at}
use Rattle.json_spec.specs.Grammar.{Member, a_pair, paired, behind_member, behind_item, scalar_at, as_text, as_list}
use Rattle.json_spec.specs.Grammar.{as_object, most_depth, whole_text, with_offset}
use Rattle.json_spec.specs.Strings.{escape_at}
use Rattle.json_spec.specs.Taken.{Read, taken, refused, and_then, behind_piece}
use Rattle.json_spec.specs.Value.{Json, Members, no_members, Items, no_items}

-- ---- strings

-- a byte that is no quote and no `\`: is it below U+0020?
abbrev pub text_plain : (List ℕ → Read (List ℕ)) → ℕ → List ℕ → Bool → Read (List ℕ)
text_plain next b bytes true = refused tt
text_plain next b bytes false = behind_piece (b ∷ []) (next bytes)

-- a byte that is no quote: is it a `\`?
abbrev pub text_escape : (List ℕ → Read (List ℕ)) → ℕ → List ℕ → Bool → Read (List ℕ)
text_escape next b bytes true = and_then (escape_at bytes) (λ piece middle. behind_piece piece (next middle))
text_escape next b bytes false = text_plain next b bytes (nat_lt b 32)

-- a byte of a string: is it the closing quote?
abbrev pub text_quote : (List ℕ → Read (List ℕ)) → ℕ → List ℕ → Bool → Read (List ℕ)
text_quote next b bytes true = taken [] bytes
text_quote next b bytes false = text_escape next b bytes (b == 92)

abbrev pub read_text : ℕ → List ℕ → Read (List ℕ)
read_text zero bytes = refused tt
read_text (suc n) [] = refused tt
read_text (suc n) (b ∷ bytes) = text_quote (λ more. read_text n more) b bytes (b == 34)

-- a string: is its text UTF-8?
abbrev pub checked : Bool → List ℕ → List ℕ → Read (List ℕ)
checked true text rest = taken text rest
checked false text rest = refused tt

-- a string that was read, refused where its text isn't UTF-8
abbrev pub string_of : Read (List ℕ) → Read (List ℕ)
string_of (taken text rest) = checked (is_utf8 text) text rest
string_of (refused e) = refused e

abbrev pub read_string : ℕ → List ℕ → Read (List ℕ)
read_string n bytes = string_of (read_text n bytes)

-- ---- names

-- where a name is asked for: is the byte a quote?
abbrev pub name_at : ℕ → ℕ → List ℕ → Bool → Reading (List ℕ)
name_at n b bytes true = text_behind bytes (λ name rest. colon_at name (after_space rest)) (read_string n bytes)
name_at n b bytes false = fault_here (b ∷ bytes)

abbrev pub read_name : ℕ → List ℕ → Reading (List ℕ)
read_name n [] = fault_here []
read_name n (b ∷ bytes) = name_at n b bytes (b == 34)

-- ---- the members of an object, where a value is read by value

abbrev pub read_member : (List ℕ → Reading Json) → ℕ → List ℕ → Reading Member
read_member value n bytes = and_then (read_name n bytes) (λ name middle. paired name (value (after_space middle)))

-- a pair, and the members behind it
abbrev pub behind_pair : Member → Reading Members → Reading Members
behind_pair (a_pair name value) out = behind_member name value out

-- behind a member, where no brace closes: is the byte a comma?
abbrev pub members_comma :
    (List ℕ → Reading Member) → (List ℕ → Reading Members) → ℕ → List ℕ → Bool → Reading Members
members_comma member next b bytes true =
    and_then (member (after_space bytes)) (λ pair middle. behind_pair pair (next (after_space middle)))
members_comma member next b bytes false = fault_here (b ∷ bytes)

-- behind a member: does a brace close?
abbrev pub members_brace :
    (List ℕ → Reading Member) → (List ℕ → Reading Members) → ℕ → List ℕ → Bool → Reading Members
members_brace member next b bytes true = taken no_members bytes
members_brace member next b bytes false = members_comma member next b bytes (b == 44)

-- what follows a member
abbrev pub more_members : (List ℕ → Reading Member) → ℕ → List ℕ → Reading Members
more_members member zero bytes = fault_here []
more_members member (suc k) [] = fault_here []
more_members member (suc k) (b ∷ bytes) = members_brace member (λ more. more_members member k more) b bytes (b == 125)

-- behind the opening brace: does a brace close?
abbrev pub first_members : (List ℕ → Reading Member) → ℕ → ℕ → List ℕ → Bool → Reading Members
first_members member n b bytes true = taken no_members bytes
first_members member n b bytes false =
    and_then (member (b ∷ bytes)) (λ pair middle. behind_pair pair (more_members member n (after_space middle)))

abbrev pub read_members : (List ℕ → Reading Member) → ℕ → List ℕ → Reading Members
read_members member n [] = fault_here []
read_members member n (b ∷ bytes) = first_members member n b bytes (b == 125)

-- ---- the values of a list, where a value is read by value

-- behind a value, where no bracket closes: is the byte a comma?
abbrev pub items_comma : (List ℕ → Reading Json) → (List ℕ → Reading Items) → ℕ → List ℕ → Bool → Reading Items
items_comma value next b bytes true =
    and_then (value (after_space bytes)) (λ v middle. behind_item v (next (after_space middle)))
items_comma value next b bytes false = fault_here (b ∷ bytes)

-- behind a value: does a bracket close?
abbrev pub items_bracket : (List ℕ → Reading Json) → (List ℕ → Reading Items) → ℕ → List ℕ → Bool → Reading Items
items_bracket value next b bytes true = taken no_items bytes
items_bracket value next b bytes false = items_comma value next b bytes (b == 44)

-- what follows a value
abbrev pub more_items : (List ℕ → Reading Json) → ℕ → List ℕ → Reading Items
more_items value zero bytes = fault_here []
more_items value (suc k) [] = fault_here []
more_items value (suc k) (b ∷ bytes) = items_bracket value (λ more. more_items value k more) b bytes (b == 93)

-- behind the opening bracket: does a bracket close?
abbrev pub first_items : (List ℕ → Reading Json) → ℕ → ℕ → List ℕ → Bool → Reading Items
first_items value n b bytes true = taken no_items bytes
first_items value n b bytes false =
    and_then (value (b ∷ bytes)) (λ v middle. behind_item v (more_items value n (after_space middle)))

abbrev pub read_items : (List ℕ → Reading Json) → ℕ → List ℕ → Reading Items
read_items value n [] = fault_here []
read_items value n (b ∷ bytes) = first_items value n b bytes (b == 93)

-- ---- values, where lists and objects are read by items and members

-- the byte is no quote and no bracket: is it a brace?
abbrev pub value_object : (List ℕ → Reading Members) → ℕ → List ℕ → Bool → Reading Json
value_object members b bytes true = as_object (members bytes)
value_object members b bytes false = scalar_at (b ∷ bytes)

-- the byte is no quote: is it a bracket?
abbrev pub value_list :
    (List ℕ → Reading Items) → (List ℕ → Reading Members) → ℕ → List ℕ → Bool → Reading Json
value_list items members b bytes true = as_list (items bytes)
value_list items members b bytes false = value_object members b bytes (b == 123)

-- the first byte of a value: is it a quote?
abbrev pub value_text :
    ℕ → (List ℕ → Reading Items) → (List ℕ → Reading Members) → ℕ → List ℕ → Bool → Reading Json
value_text n items members b bytes true = as_text bytes (read_string n bytes)
value_text n items members b bytes false = value_list items members b bytes (b == 91)

-- the value at the front, by what reads the values of a list and the members of an object
abbrev pub read_with : ℕ → (List ℕ → Reading Items) → (List ℕ → Reading Members) → List ℕ → Reading Json
read_with n items members [] = fault_here []
read_with n items members (b ∷ bytes) = value_text n items members b bytes (b == 34)

-- one more bracket than may be open, in place of what stands behind it
abbrev pub too_deep : {A : Type 0} → List ℕ → Reading A
too_deep bytes = refused (TooDeep (suc (length bytes)))

abbrev pub read_value : ℕ → ℕ → List ℕ → Reading Json
read_value zero n bytes = read_with n too_deep too_deep bytes
read_value (suc depth) n bytes =
    read_with n (λ more. read_items (λ xs. read_value depth n xs) n (after_space more))
    (λ more. read_members (read_member (λ xs. read_value depth n xs) n) n (after_space more)) bytes

-- ---- a whole text

abbrev pub read_json : List ℕ → Result Json Fault
read_json bytes =
    with_offset (length bytes) (whole_text (read_value most_depth (suc (length bytes)) (after_space bytes)))
