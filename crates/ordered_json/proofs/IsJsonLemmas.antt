-- Each value is one ordered value, which the function finds.
use Rattle.std.specs.Prelude.{◌≡◌, ℕ, Bool, List, [], ◌∷◌, Ok}
use Rattle.std.proofs.Common.{rules, refl, ap, sym, subst, ◌∙◌}
use Rattle.json_spec.specs.Grammar.{ReadsJson}
use Rattle.json_spec.specs.Value as json
use Rattle.json_spec.specs.Value.{Json, a_null, a_bool, a_number, a_text, a_list, an_object, no_items, an_item, no_members, a_member, HasDistinctNames}
use Rattle.ordered_json.specs.declared.value.Value as value
use Rattle.ordered_json.specs.declared.value.Value.{Value, out-Value, roll-Value, the_lemmas}
use Rattle.ordered_json.specs.declared.value.Value.TheOpen.{Value-F}
use Rattle.ordered_json.specs.declared.value.Items.{Items}
use Rattle.ordered_json.specs.declared.value.Members.{Members}
use Rattle.ordered_json.specs.Lists.{values_of, pairs_of}
use Rattle.ordered_json.specs.Shown.{json_of, items_of, members_of}
use Rattle.ordered_json.specs.IsJson.{IsJson, is_null, is_bool, is_number, is_text, is_list, is_object, AreItems, are_no_items, are_items, AreMembers, are_no_members, are_members, HasJson}
use Rattle.ordered_json.proofs.ShownLemmas.{json_of_list, json_of_object, json_of_text}

-- one level of a value, beside what it is
data Layer (v : Value) : Json → Type 0 where
  of_null : v ≡ value.Null → Layer v a_null
  of_bool : (b : Bool) → v ≡ value.Bool b → Layer v (a_bool b)
  of_number : (number : List ℕ) → v ≡ value.Number number → Layer v (a_number number)
  of_text : (text : List ℕ) → v ≡ value.Text text → Layer v (a_text text)
  of_list : (list : Items) (items : json.Items) → v ≡ value.List list → items_of (values_of list) ≡ items → Layer v (a_list items)
  of_object : (object : Members) (members : json.Members) → v ≡ value.Object object → members_of (pairs_of object) ≡ members → Layer v (an_object members)

pub json_of_null : json_of value.Null ≡ a_null
json_of_null = search (rules, the_lemmas)

pub json_of_bool : (b : Bool) → json_of (value.Bool b) ≡ a_bool b
json_of_bool b = search (rules, the_lemmas)

pub json_of_number : (number : List ℕ) → json_of (value.Number number) ≡ a_number number
json_of_number number = search (rules, the_lemmas)

rolled_back : (v : Value) (layer : Value-F Value Items Members) → out-Value v ≡ layer → v ≡ roll-Value layer
rolled_back v layer e = let same : roll-Value (out-Value v) ≡ roll-Value layer = ap roll-Value e in search (rules, the_lemmas, same)

layer_from : (v : Value) (layer : Value-F Value Items Members) → out-Value v ≡ layer → Layer v (json_of v)
layer_from v Value-F.Null e =
    let is : v ≡ value.Null = search (rules, the_lemmas, rolled_back v Value-F.Null e) in
    subst (Layer v) (sym (ap json_of is ∙ json_of_null)) (of_null is)
layer_from v (Value-F.Bool b) e =
    let is : v ≡ value.Bool b = search (rules, the_lemmas, rolled_back v (Value-F.Bool b) e) in
    subst (Layer v) (sym (ap json_of is ∙ json_of_bool b)) (of_bool b is)
layer_from v (Value-F.Number number) e =
    let is : v ≡ value.Number number = search (rules, the_lemmas, rolled_back v (Value-F.Number number) e) in
    subst (Layer v) (sym (ap json_of is ∙ json_of_number number)) (of_number number is)
layer_from v (Value-F.Text text) e =
    let is : v ≡ value.Text text = search (rules, the_lemmas, rolled_back v (Value-F.Text text) e) in
    subst (Layer v) (sym (ap json_of is ∙ json_of_text text)) (of_text text is)
layer_from v (Value-F.List list) e =
    let is : v ≡ value.List list = search (rules, the_lemmas, rolled_back v (Value-F.List list) e) in
    subst (Layer v) (sym (ap json_of is ∙ json_of_list list)) (of_list list (items_of (values_of list)) is refl)
layer_from v (Value-F.Object object) e =
    let is : v ≡ value.Object object = search (rules, the_lemmas, rolled_back v (Value-F.Object object) e) in
    subst (Layer v) (sym (ap json_of is ∙ json_of_object object)) (of_object object (members_of (pairs_of object)) is refl)

layer_of : (v : Value) (j : Json) → json_of v ≡ j → Layer v j
layer_of v j e = subst (Layer v) e (layer_from v (out-Value v) refl)

mutual
  json_from : (j : Json) (v : Value) → Layer v j → IsJson v j
  json_from a_null v (of_null e) = rw e is_null
  json_from (a_bool b) v (of_bool _ e) = rw e (is_bool b)
  json_from (a_number number) v (of_number _ e) = rw e (is_number number)
  json_from (a_text text) v (of_text _ e) = rw e (is_text text)
  json_from (a_list items) v (of_list list _ e i) = rw e (is_list list items (items_from items (values_of list) i))
  json_from (an_object members) v (of_object object _ e i) = rw e (is_object object members (members_from members (pairs_of object) i))

  items_from : (items : json.Items) (values : List Value) → items_of values ≡ items → AreItems values items
  items_from no_items [] e = are_no_items
  items_from no_items (v ∷ values) e = absurd (cc)
  items_from (an_item one others) [] e = absurd (cc)
  items_from (an_item one others) (v ∷ values) e = are_items v values one others (json_from one v (layer_of v one (let p = e in cc))) (items_from others values (let p = e in cc))

  members_from : (members : json.Members) (pairs : List (List ℕ × Value)) → members_of pairs ≡ members → AreMembers pairs members
  members_from no_members [] e = are_no_members
  members_from no_members (pair ∷ pairs) e = absurd (cc)
  members_from (a_member name one others) [] e = absurd (cc)
  members_from (a_member name one others) (pair ∷ pairs) e =
      subst (λ (n : List ℕ). AreMembers ((n, pair.1) ∷ pairs) (a_member name one others)) (let p = e in cc)
      (are_members name pair.1 pairs one others (json_from one pair.1 (layer_of pair.1 one (let p = e in cc))) (members_from others pairs (let p = e in cc)))

pub is_json : (v : Value) → IsJson v (json_of v)
is_json v = json_from (json_of v) v (layer_of v (json_of v) refl)

-- it is the only one
mutual
  pub only_json : {v : Value} {j : Json} → IsJson v j → json_of v ≡ j
  only_json is_null = json_of_null
  only_json (is_bool b) = json_of_bool b
  only_json (is_number number) = json_of_number number
  only_json (is_text text) = json_of_text text
  only_json (is_list list items are) = json_of_list list ∙ ap a_list (only_items are)
  only_json (is_object object members are) = json_of_object object ∙ ap an_object (only_members are)

  only_items : {values : List Value} {items : json.Items} → AreItems values items → items_of values ≡ items
  only_items are_no_items = refl
  only_items (are_items item more one others is are) = let first = only_json is in let rest = only_items are in cc

  only_members : {pairs : List (List ℕ × Value)} {members : json.Members} → AreMembers pairs members → members_of pairs ≡ members
  only_members are_no_members = refl
  only_members (are_members name member more one others is are) = let first = only_json is in let rest = only_members are in cc

pub has_json : (bytes : List ℕ) (v : Value) → ReadsJson bytes (Ok (json_of v)) → HasDistinctNames (json_of v) → HasJson bytes v
has_json bytes v reads distinct = record { json = json_of v; is = is_json v; reads = reads; distinct = distinct }

-- what was read, by the function
pub reads_json : {bytes : List ℕ} {v : Value} → HasJson bytes v → ReadsJson bytes (Ok (json_of v))
reads_json {bytes} h = subst (λ j. ReadsJson bytes (Ok j)) (sym (only_json h.is)) h.reads
