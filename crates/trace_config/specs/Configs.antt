-- What a config keeps.
--     IsConfigured page entries      the page isn't the root; the entries are distinct, and no more than a project has
--     with_entries config entries      the config with these entries
--     ArePartsOf config base page conditions entries      these are the parts of the config
use Rattle.std.specs.List.{IsDistinct}
use Rattle.std.specs.Prelude.{◌≡◌, ◌≢◌, ◌≤◌, ℕ, List, length, bytes_eq, codes}
use Rattle.tree_spec.specs.declared.LimitName.TheVariants.{Entries}
use Rattle.tree_spec.specs.Limits.{limit_number}
use Rattle.trace_spec.specs.Modules.{Config}

pub record IsConfigured (page : List ℕ) (entries : List (List ℕ)) : Type 0 where
  pub is_file : page ≢ codes "/"
  pub distinct : IsDistinct bytes_eq entries
  pub few : length entries ≤ limit_number Entries

pub record ArePartsOf (config : Config) (base page : List ℕ) (conditions entries : List (List ℕ)) : Type 0 where
  pub base_is : base ≡ config.base
  pub page_is : page ≡ config.page
  pub conditions_are : conditions ≡ config.conditions
  pub entries_are : entries ≡ config.entries

abbrev pub with_entries : Config → List (List ℕ) → Config
with_entries config entries =
    record { base = config.base; page = config.page; conditions = config.conditions; entries = entries }
