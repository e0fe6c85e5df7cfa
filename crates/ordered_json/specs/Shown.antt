-- The ordered value that a value of the code is.
--     json_of value      that value;        items_of, members_of      the same of what a list and an object hold
--     IsNoList json, IsNoObject json      the ordered value is another one
use Rattle.std.specs.Prelude.{◌≢◌, ℕ, List, [], ◌∷◌, map}
use Rattle.json_spec.specs.Value.{Json, a_null, a_bool, a_number, a_text, a_list, an_object}
use Rattle.json_spec.specs.Value.{Items, no_items, an_item, Members, no_members, a_member}
use Rattle.ordered_json.specs.declared.value.Value.{Value, fold-Value}
use Rattle.ordered_json.specs.declared.value.Value.TheOpen.{Value-F, Items-F, Members-F}

abbrev pub items_from : List Json → Items
items_from [] = no_items
items_from (value ∷ more) = an_item value (items_from more)

abbrev pub members_from : List (List ℕ × Json) → Members
members_from [] = no_members
members_from (member ∷ more) = a_member member.0 member.1 (members_from more)

-- one level, with each value in it already seen as its ordered value
abbrev pub value_step : Value-F Json Items Members → Json
value_step Value-F.Null = a_null
value_step (Value-F.Bool b) = a_bool b
value_step (Value-F.Number number) = a_number number
value_step (Value-F.Text text) = a_text text
value_step (Value-F.List items) = a_list items
value_step (Value-F.Object members) = an_object members

abbrev pub items_step : Items-F Json Items Members → Items
items_step level = items_from level.values.items

abbrev pub members_step : Members-F Json Items Members → Members
members_step level = members_from level.pairs.items

abbrev pub json_of : Value → Json
json_of = fold-Value Json Items Members value_step items_step members_step

abbrev pub items_of : List Value → Items
items_of values = items_from (map json_of values)

abbrev pub members_of : List (List ℕ × Value) → Members
members_of pairs = members_from (map (λ (pair : List ℕ × Value). (pair.0, json_of pair.1)) pairs)

abbrev pub IsNoList : Json → Type 0
IsNoList json = (items : Items) → json ≢ a_list items

abbrev pub IsNoObject : Json → Type 0
IsNoObject json = (members : Members) → json ≢ an_object members
