-- The file of a project: what to generate for, as it is kept from one call to the next. All of it is this project's
-- own.
--     ReadsProject bytes out      the bytes have the config, or the fault, out
--     IsPagePath text             a text can be the path of a page
--     Describes value config      a JSON value is that of a project's file, and this is its config
--     IsProject config            the config can stand in a project's file
--     project_value config, project_text config      the config as a JSON value, and its text
use Rattle.std.specs.List.{IsDistinct}
use Rattle.std.specs.Prelude.{◌≡◌, ◌≢◌, ◌≤◌, ◌<◌, ℕ, List, [], ◌∷◌, length, codes, bytes_eq, Some, Result, Ok, Err}
use Rattle.tree_spec.specs.Limits.{limit_number}
use Rattle.tree_spec.specs.Paths.{IsPath}
use Rattle.tree_spec.specs.declared.LimitName.{LimitName}
use Rattle.tree_spec.specs.declared.LimitName.TheVariants.{Depth, Entries}
use Rattle.json_spec.specs.Grammar as json
use Rattle.json_spec.specs.Grammar.{NotJson, TooDeep, ReadsJson}
use Rattle.json_spec.specs.PrintedValue.{printed_text}
use Rattle.json_spec.specs.PropertyOrder.{pairs_of}
use Rattle.json_spec.specs.Value.{Json, a_text, a_list, an_object, Items, no_items, an_item, Members, no_members}
use Rattle.json_spec.specs.Value.{a_member}
use Rattle.url_spec.specs.Bases.{base_of, IsBase}
use Rattle.import_map_spec.specs.Parsing.{member}
use Rattle.node_spec.specs.Conditions.{AreConditions}
use Rattle.trace_spec.specs.Modules.{Config}

-- the values of a list of strings
abbrev pub strings : List (List ℕ) → Items
strings [] = no_items
strings (text ∷ texts) = an_item (a_text text) (strings texts)

-- own: an object has these four members, in any order, and no other
pub record HasParts (members : Members) (base page : List ℕ) (conditions entries : Items) : Type 0 where
  pub four : length (pairs_of members) ≡ 4
  pub base_member : member (codes "base") members ≡ Some (a_text base)
  pub page_member : member (codes "page") members ≡ Some (a_text page)
  pub conditions_member : member (codes "conditions") members ≡ Some (a_list conditions)
  pub entries_member : member (codes "entries") members ≡ Some (a_list entries)

-- own: a path other than `/`
pub record IsPagePath (text : List ℕ) : Type 0 where
  pub is_path : IsPath text
  pub no_root : text ≢ codes "/"

-- own: the base is one, the page's path can be one, the conditions can be conditions, and no entry stands twice
pub record IsProject (config : Config) : Type 0 where
  pub base : IsBase config.base
  pub page : IsPagePath config.page
  pub conditions : AreConditions config.conditions
  pub distinct : IsDistinct bytes_eq config.entries

-- own: the parts are those of a project, and the base is the one that its text gives
pub record Describes (value : Json) (config : Config) : Type 0 where
  pub members : Members
  pub text : List ℕ
  pub object : value ≡ an_object members
  pub parts : HasParts members text config.page (strings config.conditions) (strings config.entries)
  pub gives : base_of text ≡ Some config.base
  pub is_project : IsProject config

-- own: why bytes give no config. `BadFile`: they aren't the file of a project; the fault of a JSON text has its place,
-- and any other is told at 0. `PassesLimit`: this quantity passes its limit
pub data Fault : Type 0 where
  BadFile : ℕ → Fault
  PassesLimit : LimitName → Fault

-- own: the same of what the bytes are as a JSON text. That there are too many entries is told of nothing but a
-- project's file
pub data Gives : Result Json json.Fault → Result Config Fault → Type 0 where
  a_project :
      {value : Json} {config : Config} → Describes value config → length config.entries ≤ limit_number Entries
      → Gives (Ok value) (Ok config)
  many_entries :
      {value : Json} {config : Config} → Describes value config → limit_number Entries < length config.entries
      → Gives (Ok value) (Err (PassesLimit Entries))
  no_project : {value : Json} → ((config : Config) → Describes value config → ⊥) → Gives (Ok value) (Err (BadFile 0))
  no_json : {at : ℕ} → Gives (Err (NotJson at)) (Err (BadFile at))
  deep_json : {at : ℕ} → Gives (Err (TooDeep at)) (Err (PassesLimit Depth))

pub data ReadsProject : List ℕ → Result Config Fault → Type 0 where
  reads_project :
      {bytes : List ℕ} (value : Result Json json.Fault) {out : Result Config Fault} → ReadsJson bytes value
      → Gives value out → ReadsProject bytes out

-- own: the base, the page, the conditions and the entries, in this order
unfoldable pub project_value : Config → Json
project_value config =
    an_object (a_member (codes "base") (a_text config.base)
    (a_member (codes "page") (a_text config.page)
    (a_member (codes "conditions") (a_list (strings config.conditions))
    (a_member (codes "entries") (a_list (strings config.entries)) no_members))))

unfoldable pub project_text : Config → List ℕ
project_text config = printed_text (project_value config)
