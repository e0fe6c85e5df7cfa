-- The order in which an object gives its members (ECMA-262, OrdinaryOwnPropertyKeys).
--     in_property_order members      those whose names are array indices by number, and then the others as they are
--         written
--     is_array_index text      the text is the decimal form of a number below 2^32 - 1 (ECMA-262, object type)
--     number_of digits      the number that decimal digits spell
--     pairs_of members      the members as a list
use Rattle.std.specs.Prelude.{ℕ, ◌+◌, ◌-◌, ◌*◌, Bool, not, ◌&&◌, ◌==◌, nat_lt, nat_le, true, false, List, [], ◌∷◌}
use Rattle.std.specs.Prelude.{if◌then◌else◌}
use Rattle.std.specs.List.{list_all}
use Rattle.std.specs.Char.{is_ascii_digit}
use Rattle.json_spec.specs.Value.{Json, Members, no_members, a_member}

-- the number that these digits spell, behind those that were n
abbrev pub number_behind : ℕ → List ℕ → ℕ
number_behind n [] = n
number_behind n (b ∷ digits) = number_behind (n * 10 + (b - 48)) digits

abbrev pub number_of : List ℕ → ℕ
number_of digits = number_behind 0 digits

-- a digit alone, or digits of which the first is no zero
abbrev pub has_no_leading_zero : List ℕ → Bool
has_no_leading_zero [] = false
has_no_leading_zero (b ∷ []) = true
has_no_leading_zero (b ∷ c ∷ digits) = not (b == 48)

-- ECMA-262, object type: an array index
unfoldable pub is_array_index : List ℕ → Bool
is_array_index text = list_all is_ascii_digit text && (has_no_leading_zero text && nat_le (number_of text) 4294967294)

-- a name with its value
abbrev pub Pair : Type 0
Pair = List ℕ × Json

abbrev pub pairs_of : Members → List Pair
pairs_of no_members = []
pairs_of (a_member key value more) = (key, value) ∷ pairs_of more

-- a member before those of greater numbers
abbrev pub by_number : List ℕ → Json → Members → Members
by_number key value no_members = a_member key value no_members
by_number key value (a_member k v more) =
    if nat_lt (number_of key) (number_of k) then a_member key value (a_member k v more)
    else a_member k v (by_number key value more)

-- the members whose names are array indices, by ascending number
abbrev pub index_members : Members → Members
index_members no_members = no_members
index_members (a_member key value more) =
    if is_array_index key then by_number key value (index_members more) else index_members more

-- the other members, as they are written
abbrev pub other_members : Members → Members
other_members no_members = no_members
other_members (a_member key value more) =
    if is_array_index key then other_members more else a_member key value (other_members more)

-- the members, and behind them the others
abbrev pub joined : Members → Members → Members
joined no_members others = others
joined (a_member key value more) others = a_member key value (joined more others)

-- ECMA-262, OrdinaryOwnPropertyKeys
abbrev pub in_property_order : Members → Members
in_property_order members = joined (index_members members) (other_members members)
