-- The printed map: the text that this project writes.
--     map_value map, map_text map      the map as a JSON value, and its text
--     IsKept base map      each key, address and scope of the map stands as parsing against the map base leaves it
use Rattle.std.specs.FinMap.{entries, get}
use Rattle.std.specs.Prelude.{ℕ, List, [], ◌∷◌, Option, Some, None, codes, ◌≡◌, ⊤, IsUtf8, false}
use Rattle.json_spec.specs.PrintedValue.{printed_text}
use Rattle.json_spec.specs.Value.{Json, Members, no_members, a_member, a_null, a_text, an_object}
use Rattle.url_spec.specs.Parsing.{parse_against}
use Rattle.url_spec.specs.Specifiers.{normalized, as_url}
use Rattle.import_map_spec.specs.ParsedMap.{Addresses, ParsedMap}
use Rattle.import_map_spec.specs.Parsing.{address_of, is_empty}
use Rattle.layout_spec.specs.ShortForms.{short}

-- the members with these names in this order, each with the JSON value of what it has
abbrev pub members_of : {X : Type 0} → (X → Json) → List (List ℕ × X) → Members
members_of value [] = no_members
members_of value (e ∷ es) = a_member e.0 (value e.1) (members_of value es)

-- an address as a JSON value: its URL as a string, or null
abbrev pub address_value : List ℕ → Option (List ℕ) → Json
address_value base None = a_null
address_value base (Some url) = a_text (short base url)

-- own: the names are sorted by their bytes, as those of the scopes and of the integrity are
abbrev pub addresses_value : List ℕ → Addresses → Json
addresses_value base m = an_object (members_of (address_value base) (entries m))

-- own: the scopes stand in the order of their keys, which are written in their short form
abbrev pub scopes_of : List ℕ → List (List ℕ × Addresses) → Members
scopes_of base [] = no_members
scopes_of base (e ∷ es) = a_member (short base e.0) (addresses_value base e.1) (scopes_of base es)

-- own: a part that is empty is left out
abbrev pub with_part : List ℕ → Members → Members → Members
with_part name no_members more = more
with_part name (a_member key value part) more = a_member name (an_object (a_member key value part)) more

-- own: the imports, then the scopes and the integrity where there are any
unfoldable pub map_value : List ℕ → ParsedMap → Json
map_value base m =
    an_object (a_member (codes "imports") (addresses_value base m.imports)
    (with_part (codes "scopes") (scopes_of base (entries m.scopes))
    (with_part (codes "integrity") (members_of a_text (entries m.integrity)) no_members)))

-- own: the text of the map
unfoldable pub map_text : List ℕ → ParsedMap → List ℕ
map_text base m = printed_text (map_value base m)

-- own: parsing gives the key this address as it is, and it is UTF-8; null is kept always
abbrev pub IsKeptAddress : List ℕ → List ℕ → Option (List ℕ) → Type 0
IsKeptAddress base key None = ⊤
IsKeptAddress base key (Some url) = (address_of base key (a_text url) ≡ Some url) × IsUtf8 url

-- own: the key is normalized and not empty, and parsing gives its address as it is
pub record IsKeptKey (base key : List ℕ) (address : Option (List ℕ)) : Type 0 where
  pub not_empty : is_empty key ≡ false
  pub normal : normalized base key ≡ key
  pub utf8 : IsUtf8 key
  pub stands : IsKeptAddress base key address

-- own: each key of a module specifier map is kept, with its address
abbrev pub AreKept : List ℕ → Addresses → Type 0
AreKept base m = (key : List ℕ) (address : Option (List ℕ)) → get m key ≡ Some address → IsKeptKey base key address

-- own: the key is a URL, and parsing gives it and its addresses as they are
pub record IsKeptScope (base key : List ℕ) (addresses : Addresses) : Type 0 where
  pub url : parse_against base key ≡ Some key
  pub utf8 : IsUtf8 key
  pub kept : AreKept base addresses

-- own: the key is a URL that parsing gives as it is
pub record IsKeptIntegrity (base key text : List ℕ) : Type 0 where
  pub url : as_url base key ≡ Some key
  pub key_utf8 : IsUtf8 key
  pub text_utf8 : IsUtf8 text

-- own: each part of the map stands as parsing leaves it
pub record IsKept (base : List ℕ) (m : ParsedMap) : Type 0 where
  pub imports : AreKept base m.imports
  pub scopes :
      (key : List ℕ) (addresses : Addresses) → get m.scopes key ≡ Some addresses → IsKeptScope base key addresses
  pub integrity : (key text : List ℕ) → get m.integrity key ≡ Some text → IsKeptIntegrity base key text
