-- Strings and lists among the values of a list and of an object.
--     IsStringAt values i text        the value with this number is this string
--     NoStringAt values i             no string has this number
--     list_in, object_in              the list, or the object, that a value is
--     string_found, list_found        the text or the list of a value that was found
use Rattle.std.specs.Prelude.{◌≡◌, ℕ, List, Option, Some, None, slice_get}
use Rattle.json_spec.specs.Value.{Json, a_null, a_bool, a_number, a_text, a_list, an_object, Items, Members}
use Rattle.node_spec.specs.Records.{text_in}
use Rattle.ordered_json.specs.Shown.{json_of}
use Rattle.ordered_json.specs.declared.value.Value.{Value}

pub record IsStringAt (values : List Value) (i : ℕ) (text : List ℕ) : Type 0 where
  pub value : Value
  pub at : slice_get values i ≡ Some value
  pub is : json_of value ≡ a_text text

abbrev pub NoStringAt : List Value → ℕ → Type 0
NoStringAt values i = (text : List ℕ) → IsStringAt values i text → ⊥

abbrev pub string_found : Option Json → Option (List ℕ)
string_found None = None
string_found (Some value) = text_in value

abbrev pub list_in : Json → Option Items
list_in a_null = None
list_in (a_bool b) = None
list_in (a_number number) = None
list_in (a_text text) = None
list_in (a_list items) = Some items
list_in (an_object object) = None

abbrev pub object_in : Json → Option Members
object_in a_null = None
object_in (a_bool b) = None
object_in (a_number number) = None
object_in (a_text text) = None
object_in (a_list items) = None
object_in (an_object members) = Some members

abbrev pub list_found : Option Json → Option Items
list_found None = None
list_found (Some value) = list_in value
