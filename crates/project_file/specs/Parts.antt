-- The parts of a project as its file has them, and what is made of them.
--     IsWritten value written, NotWritten value      a JSON value has these parts, or none
--     HasNoParts members                             an object has no such parts
--     IsFilled base page conditions entries found    the config that parts written so give, or none
--     HoldsStrings items Are found                   the list is these strings, and they are so; or it is no such list
--     CanBeProject page entries                      the page isn't the root, and the entries are distinct
--     CanBeReadBack config                           it is a project of few entries, and its page and entries are UTF-8
use Rattle.std.specs.List.{IsDistinct}
use Rattle.std.specs.Prelude.{◌≡◌, ◌≢◌, ◌≤◌, ℕ, List, ⊤, Option, Some, None, All, IsUtf8, codes, bytes_eq, length}
use Rattle.tree_spec.specs.declared.LimitName.TheVariants.{Entries}
use Rattle.tree_spec.specs.Limits.{limit_number}
use Rattle.json_spec.specs.Value.{Json, an_object, Items, Members}
use Rattle.url_spec.specs.Bases.{base_of}
use Rattle.ordered_json.specs.Lists.{values_of}
use Rattle.ordered_json.specs.Shown.{items_of}
use Rattle.node_spec.specs.Conditions.{AreConditions}
use Rattle.trace_spec.specs.Modules.{Config}
use Rattle.project_spec.specs.ProjectFiles.{IsPagePath, strings, HasParts, IsProject}
use Rattle.project_file.specs.declared.parts.Written.{Written}

abbrev pub has_written : Members → Written → Type 0
has_written members written =
    HasParts members written.base.now written.page.now (items_of (values_of written.conditions.now))
    (items_of (values_of written.entries.now))

abbrev pub HasNoParts : Members → Type 0
HasNoParts members =
    (base page : List ℕ) (conditions entries : Items) → HasParts members base page conditions entries → ⊥

pub record IsWritten (value : Json) (written : Written) : Type 0 where
  pub members : Members
  pub object : value ≡ an_object members
  pub parts : has_written members written

abbrev pub NotWritten : Json → Type 0
NotWritten value = (members : Members) → value ≡ an_object members → HasNoParts members

pub record CanBeProject (page : List ℕ) (entries : List (List ℕ)) : Type 0 where
  pub is_file : page ≢ codes "/"
  pub distinct : IsDistinct bytes_eq entries

pub record CanBeReadBack (config : Config) : Type 0 where
  pub project : IsProject config
  pub few : length config.entries ≤ limit_number Entries
  pub page : IsUtf8 config.page
  pub entries : All IsUtf8 config.entries

abbrev pub IsAnyList : List (List ℕ) → Type 0
IsAnyList texts = ⊤

abbrev pub HoldsStrings : Items → (List (List ℕ) → Type 0) → Option (List (List ℕ)) → Type 0
HoldsStrings items Are None = (texts : List (List ℕ)) → items ≡ strings texts → Are texts → ⊥
HoldsStrings items Are (Some texts) = (items ≡ strings texts) × Are texts

-- the parts are written so, and can stand in a project
pub record Fills (base page : List ℕ) (conditions entries : Items) (config : Config) : Type 0 where
  pub gives : base_of base ≡ Some config.base
  pub same_page : config.page ≡ page
  pub is_page : IsPagePath config.page
  pub names : conditions ≡ strings config.conditions
  pub are_conditions : AreConditions config.conditions
  pub texts : entries ≡ strings config.entries
  pub distinct : IsDistinct bytes_eq config.entries

abbrev pub IsFilled : List ℕ → List ℕ → Items → Items → Option Config → Type 0
IsFilled base page conditions entries None = (config : Config) → Fills base page conditions entries config → ⊥
IsFilled base page conditions entries (Some config) = Fills base page conditions entries config
