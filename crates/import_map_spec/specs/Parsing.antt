-- Parsing an import map (HTML, import maps: parse an import map string).
--     parsed_map base value      the map of a JSON value against the map base, or the first part that is no object
--     ParsesMap base bytes out      the same of a text
--     normalized_addresses, normalized_scopes, normalized_integrity      the three parts of a map
use Rattle.std.specs.FinMap.{insert, empty}
use Rattle.std.specs.Prelude.{ℕ, Bool, true, false, List, [], ◌∷◌, not, ◌&&◌, if◌then◌else◌, Option, Some, None, Result}
use Rattle.std.specs.Prelude.{Ok, Err, bytes_eq, codes, ◌≡◌}
use Rattle.json_spec.specs.Grammar.{Fault, ReadsJson}
use Rattle.json_spec.specs.PropertyOrder.{in_property_order}
use Rattle.json_spec.specs.Value.{Json, a_null, a_bool, a_number, a_text, a_list, an_object, Members, no_members}
use Rattle.json_spec.specs.Value.{a_member}
use Rattle.url_spec.specs.Parsing.{parse_against}
use Rattle.url_spec.specs.Specifiers.{ends_in_slash, as_url, normalized}
use Rattle.import_map_spec.specs.ParsedMap.{Addresses, Texts, ParsedMap, MapFault, NotObject, NoJson}
use Rattle.import_map_spec.specs.declared.MapPart.{MapPart}
use Rattle.import_map_spec.specs.declared.MapPart.TheVariants.{Scope, Imports, Scopes, Integrity, Top}

-- the text is empty
abbrev pub is_empty : List ℕ → Bool
is_empty [] = true
is_empty (b ∷ text) = false

-- a URL that ends in no `/` is no address of a key that does (HTML, import maps: sorting and normalizing a module
-- specifier map)
abbrev pub fitting : List ℕ → Option (List ℕ) → Option (List ℕ)
fitting key None = None
fitting key (Some url) = if ends_in_slash key && not (ends_in_slash url) then None else Some url

-- the address of a key, null where the value is no string or no URL (HTML, import maps: sorting and normalizing a
-- module specifier map)
abbrev pub address_of : List ℕ → List ℕ → Json → Option (List ℕ)
address_of base key (a_text text) = fitting key (as_url base text)
address_of base key a_null = None
address_of base key (a_bool b) = None
address_of base key (a_number number) = None
address_of base key (a_list items) = None
address_of base key (an_object ms) = None

-- a key that is empty is dropped, and each other one normalized (HTML, import maps: normalizing a specifier key)
abbrev pub with_address : List ℕ → List ℕ → Json → Addresses → Addresses
with_address base key value m = if is_empty key then m else insert m (normalized base key) (address_of base key value)

-- in written order, so that a later key that is normalized to the same replaces an earlier one (HTML, import maps:
-- sorting and normalizing a module specifier map)
abbrev pub addresses_onto : List ℕ → Addresses → Members → Addresses
addresses_onto base m no_members = m
addresses_onto base m (a_member key value more) = addresses_onto base (with_address base key value m) more

abbrev pub normalized_addresses : List ℕ → Members → Addresses
normalized_addresses base members = addresses_onto base empty members

-- a scope whose key is no URL is dropped (HTML, import maps: sorting and normalizing scopes)
abbrev pub with_scope : Option (List ℕ) → Addresses → Texts Addresses → Texts Addresses
with_scope None addresses m = m
with_scope (Some url) addresses m = insert m url addresses

-- a later key replaces an earlier one, and a scope that is no object is a fault (HTML, import maps: sorting and
-- normalizing scopes)
abbrev pub scopes_onto : List ℕ → Texts Addresses → Members → Result (Texts Addresses) MapPart
scopes_onto base m no_members = Ok m
scopes_onto base m (a_member key (an_object ms) more) =
    scopes_onto base (with_scope (parse_against base key) (normalized_addresses base ms) m) more
scopes_onto base m (a_member key _ more) = Err Scope

abbrev pub normalized_scopes : List ℕ → Members → Result (Texts Addresses) MapPart
normalized_scopes base members = scopes_onto base empty (in_property_order members)

-- a key that is no URL is dropped, and so is a value that is no string (HTML, import maps: normalizing a module
-- integrity map)
abbrev pub with_integrity : Option (List ℕ) → Json → Texts (List ℕ) → Texts (List ℕ)
with_integrity (Some url) (a_text text) m = insert m url text
with_integrity _ _ m = m

-- in written order, so that a later key with the same URL replaces an earlier one (HTML, import maps: normalizing a
-- module integrity map)
abbrev pub integrity_onto : List ℕ → Texts (List ℕ) → Members → Texts (List ℕ)
integrity_onto base m no_members = m
integrity_onto base m (a_member key value more) = integrity_onto base (with_integrity (as_url base key) value m) more

abbrev pub normalized_integrity : List ℕ → Members → Texts (List ℕ)
normalized_integrity base members = integrity_onto base empty members

-- the value of a member that is there
abbrev pub member : List ℕ → Members → Option Json
member name no_members = None
member name (a_member key value more) = if bytes_eq name key then Some value else member name more

-- the members of a part, which must be an object, where it is there
abbrev pub object_in : MapPart → Option Json → Result Members MapPart
object_in part None = Ok no_members
object_in part (Some (an_object ms)) = Ok ms
object_in part (Some _) = Err part

infixl 10 ◌>>=◌
-- what comes next is made of the value; the first part that is no object ends it
abbrev pub ◌>>=◌ : {A B : Type 0} → Result A MapPart → (A → Result B MapPart) → Result B MapPart
(Ok x) >>= next = next x
(Err part) >>= next = Err part

-- the checks come in this order (HTML, import maps: parse an import map string)
abbrev pub map_of_members : List ℕ → Members → Result ParsedMap MapPart
map_of_members base top = do
  imports ← object_in Imports (member (codes "imports") top)
  scopes ← object_in Scopes (member (codes "scopes") top)
  normal_scopes ← normalized_scopes base scopes
  integrity ← object_in Integrity (member (codes "integrity") top)
  Ok (record {
    imports = normalized_addresses base imports;
    scopes = normal_scopes;
    integrity = normalized_integrity base integrity;
  })

-- HTML, import maps, parse an import map string: the map of a JSON value
unfoldable pub parsed_map : List ℕ → Json → Result ParsedMap MapPart
parsed_map base (an_object ms) = map_of_members base ms
parsed_map base _ = Err Top

-- the map, or the part that is no object as the fault of a text
abbrev pub as_map : Result ParsedMap MapPart → Result ParsedMap MapFault
as_map (Ok m) = Ok m
as_map (Err part) = Err (NotObject part)

-- the map of the JSON value that a text has, or the fault of a text that has none
abbrev pub map_from : List ℕ → Result Json Fault → Result ParsedMap MapFault
map_from base (Ok value) = as_map (parsed_map base value)
map_from base (Err fault) = Err (NoJson fault)

-- the map of a text (HTML, import maps: parse an import map string)
pub record ParsesMap (base bytes : List ℕ) (out : Result ParsedMap MapFault) : Type 0 where
  pub json : Result Json Fault
  pub reads : ReadsJson bytes json
  pub is : out ≡ map_from base json
