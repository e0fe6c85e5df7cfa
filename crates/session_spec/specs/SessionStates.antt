-- The state of a session. own.
--     Counts                          modules, requests and mappings, as they are told
--     counts_of all layout            those of a trace and its layout
--     SessionState                    a tree, a config, the bytes of a map, and counts
--     draft_of state                  the tree and the config's entries
--     config_with config entries      the config with these entries
--     next_state state draft map counts       the state with what an edit made of it
--     IsGenerated tree config map counts      the map is generated for them, and these are its counts
--     IsCurrent state                 so is the state's own map for its tree and its config
use Rattle.std.specs.Prelude.{◌≡◌, ℕ, List, length}
use Rattle.import_map_spec.specs.ParsedMap.{ParsedMap}
use Rattle.layout_spec.specs.Counting.{mapping_count}
use Rattle.trace_spec.specs.Checks.{Gathered}
use Rattle.trace_spec.specs.Modules.{Config}
use Rattle.tree_spec.specs.Trees.{Tree}
use Rattle.generator_spec.specs.Generation.{Generates}
use Rattle.session_spec.specs.Edits.{Draft}

pub record Counts : Type 0 where
  pub modules : ℕ
  pub requests : ℕ
  pub mappings : ℕ

-- own: the modules without the page, the requests with the entries, the mappings of imports and scopes
abbrev pub counts_of : Gathered → ParsedMap → Counts
counts_of all layout =
    record { modules = length all.modules; requests = length all.targets; mappings = mapping_count layout }

pub record SessionState : Type 0 where
  pub tree : Tree
  pub config : Config
  pub map : List ℕ
  pub counts : Counts

abbrev pub draft_of : SessionState → Draft
draft_of state = record { tree = state.tree; entries = state.config.entries }

abbrev pub config_with : Config → List (List ℕ) → Config
config_with config entries =
    record { base = config.base; page = config.page; conditions = config.conditions; entries = entries }

abbrev pub next_state : SessionState → Draft → List ℕ → Counts → SessionState
next_state state draft map counts =
    record { tree = draft.tree; config = config_with state.config draft.entries; map = map; counts = counts }

pub record IsGenerated (tree : Tree) (config : Config) (map : List ℕ) (counts : Counts) : Type 0 where
  pub generates : Generates tree config map
  pub counted : counts ≡ counts_of generates.all generates.layout

abbrev pub IsCurrent : SessionState → Type 0
IsCurrent state = IsGenerated state.tree state.config state.map state.counts
