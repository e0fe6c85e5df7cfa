-- How large a value is: what nests in it is smaller.
use Rattle.std.proofs.Common.{◌≡◌, ◌≤◌, ◌+◌, ℕ, zero, suc, List, [], ◌∷◌, drop, ap, ◌∙◌, arith}
use Rattle.json_spec.specs.Value.{Json, a_null, a_bool, a_number, a_text, a_list, an_object, Items, no_items, an_item, Members, no_members, a_member}
use Rattle.ordered_json.specs.declared.value.Value as value
use Rattle.ordered_json.specs.declared.value.Value.{Value}
use Rattle.ordered_json.specs.declared.value.Items as code
use Rattle.ordered_json.specs.Lists.{values_of}
use Rattle.ordered_json.specs.Shown.{json_of, items_of, members_of}
use Rattle.ordered_json.proofs.ShownLemmas.{json_of_list}

abbrev mutual
  pub size : Json → ℕ
  size a_null = 0
  size (a_bool b) = 0
  size (a_number number) = 0
  size (a_text text) = 0
  size (a_list items) = size_items items + 1
  size (an_object members) = size_members members + 1

  pub size_items : Items → ℕ
  size_items no_items = 0
  size_items (an_item value more) = size value + size_items more

  pub size_members : Members → ℕ
  size_members no_members = 0
  size_members (a_member key value more) = size value + size_members more

rest_of_items : (i : ℕ) (values : List Value) → size_items (items_of (drop i values)) ≤ size_items (items_of values)
rest_of_items zero values = omega arith
rest_of_items (suc i) [] = omega arith
rest_of_items (suc i) (v ∷ values) = omega (arith, rest_of_items i values)

pub item_size : (values : List Value) (i : ℕ) (v : Value) (more : List Value) → drop i values ≡ v ∷ more → size (json_of v) ≤ size_items (items_of values)
item_size values i v more e = omega (arith, rest_of_items i values, ap (λ vs. size_items (items_of vs)) e)

rest_of_members : (i : ℕ) (pairs : List (List ℕ × Value)) → size_members (members_of (drop i pairs)) ≤ size_members (members_of pairs)
rest_of_members zero pairs = omega arith
rest_of_members (suc i) [] = omega arith
rest_of_members (suc i) (p ∷ pairs) = omega (arith, rest_of_members i pairs)

pub member_size : (pairs : List (List ℕ × Value)) (i : ℕ) (key : List ℕ) (v : Value) (more : List (List ℕ × Value)) → drop i pairs ≡ (key, v) ∷ more → size (json_of v) ≤ size_members (members_of pairs)
member_size pairs i key v more e = omega (arith, rest_of_members i pairs, ap (λ ps. size_members (members_of ps)) e)

pub list_size : (v : Value) (items : code.Items) → v ≡ value.List items → size (json_of v) ≡ size_items (items_of (values_of items)) + 1
list_size v items e = ap size (ap json_of e ∙ json_of_list items)
