-- Which ordered value a value of the code is, by the values in its lists and the members of its objects.
--     IsJson value json      the value is this ordered value
--     AreItems values items      the values, in their order, are these items
--     AreMembers pairs members      the pairs, in their order, are these members
--     HasJson bytes value      the bytes are the text of the ordered value that the value is, which has no name twice
--         in one object
-- `values_of list` is what `at` gives, number by number, up to `len`, and so is `pairs_of object`: where they lie, and
-- how the words of the private contracts tell it, need not be known.
use Rattle.std.specs.Prelude.{ℕ, Bool, List, [], ◌∷◌, Ok}
use Rattle.json_spec.specs.Grammar.{ReadsJson}
use Rattle.json_spec.specs.Value.{Json, a_null, a_bool, a_number, a_text, a_list, an_object, HasDistinctNames}
use Rattle.json_spec.specs.Value as json
use Rattle.json_spec.specs.Value.{no_items, an_item, no_members, a_member}
use Rattle.ordered_json.specs.declared.value.Value as value
use Rattle.ordered_json.specs.declared.value.Value.{Value}
use Rattle.ordered_json.specs.declared.value.Items.{Items}
use Rattle.ordered_json.specs.declared.value.Members.{Members}
use Rattle.ordered_json.specs.Lists.{values_of, pairs_of}

mutual
  pub data IsJson : Value → Json → Type 0 where
    is_null : IsJson value.Null a_null
    is_bool : (b : Bool) → IsJson (value.Bool b) (a_bool b)
    is_number : (number : List ℕ) → IsJson (value.Number number) (a_number number)
    is_text : (text : List ℕ) → IsJson (value.Text text) (a_text text)
    is_list :
        (list : Items) (items : json.Items) → AreItems (values_of list) items → IsJson (value.List list) (a_list items)
    is_object :
        (object : Members) (members : json.Members) → AreMembers (pairs_of object) members
        → IsJson (value.Object object) (an_object members)

  pub data AreItems : List Value → json.Items → Type 0 where
    are_no_items : AreItems [] no_items
    are_items :
        (item : Value) (more : List Value) (one : Json) (others : json.Items) → IsJson item one → AreItems more others
        → AreItems (item ∷ more) (an_item one others)

  pub data AreMembers : List (List ℕ × Value) → json.Members → Type 0 where
    are_no_members : AreMembers [] no_members
    are_members :
        (name : List ℕ) (member : Value) (more : List (List ℕ × Value)) (one : Json) (others : json.Members)
        → IsJson member one → AreMembers more others → AreMembers ((name, member) ∷ more) (a_member name one others)

pub record HasJson (bytes : List ℕ) (value : Value) : Type 0 where
  pub json : Json
  pub is : IsJson value json
  pub reads : ReadsJson bytes (Ok json)
  pub distinct : HasDistinctNames json
