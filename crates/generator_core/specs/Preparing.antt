-- How a command comes to what it writes.
--     FindsPage config before result after      the page is read, or it is told why not
--     shown_files prepared      the files that are to be written
--     KeepsProject command keeps      whether the command writes the project beside the map
--     AreMapFiles config keeps generated prepared      the files are the map that was generated, and the project
--     IsPageFile config page generated prepared      the file is the page with that map
--     Prepares command config before result after      the command has its file, or it is told why not
use Rattle.std.specs.Prelude.{◌≡◌, ◌≤◌, [], ◌∷◌, ℕ, Bool, true, false, List, length, map}
use Rattle.std.specs.Prelude.{Result, Ok, IfOk, IfErr, IfSome}
use Rattle.std.specs.FinMap.{get}
use Rattle.tree_spec.specs.declared.LimitName.TheVariants.{Map}
use Rattle.tree_spec.specs.Limits.{limit_number}
use Rattle.tree_spec.specs.States.{FolderState, OnlyLooks}
use Rattle.tree_spec.specs.Trees.{Tree}
use Rattle.page_spec.specs.Injection.{Injection}
use Rattle.import_map_spec.specs.ParsedMap.{ParsedMap}
use Rattle.layout_spec.specs.Counting.{mapping_count}
use Rattle.layout_spec.specs.PrintedMap.{map_text}
use Rattle.fewest_spec.specs.Fewest.{IsFewestLayout}
use Rattle.fewest_spec.specs.Wishes.{HasTooManyChoices}
use Rattle.trace_spec.specs.Checks.{Gathered}
use Rattle.trace_spec.specs.Modules.{Config}
use Rattle.trace_spec.specs.Traces.{traced}
use Rattle.config_spec.specs.declared.Command.{Command}
use Rattle.config_spec.specs.declared.Command.TheVariants.{Link, Unlink, Refresh, Inject}
use Rattle.generator_spec.specs.Commands.{IsPage, Refuses, IsRefusalOf, map_path, NewFile, new_file}
use Rattle.generator_spec.specs.Commands.{map_and_project, Writes}
use Rattle.generator_spec.specs.Generation.{PageIsFile, map_base}
use Rattle.generator_spec.specs.Digests.{with_digests}
use Rattle.generator_spec.specs.Asked.{AsksOwn, AsksFew}
use Rattle.generation.specs.declared.generated.Generated.{Generated}
use Rattle.generation.specs.declared.stop.Stop.{Stop}
use Rattle.generation.specs.declared.stop.Stop.TheVariants.{ReadFault}
use Rattle.generation.specs.Generating.{IfRefused}
use Rattle.generator_core.specs.declared.prepared.Fresh.{Fresh}
use Rattle.generator_core.specs.declared.prepared.Prepared.{Prepared}

-- ---- before the write

-- a told tree refuses the command so; and whatever is told, the command can be refused so. A failed look was counted
pub record EndsBefore (command : Command) (config : Config) (before after : FolderState) (stop : Stop) : Type 0 where
  pub refused : IfRefused (λ why. IfSome before.holds (λ tree. Refuses tree config command why)) stop
  pub kind : IfRefused (λ why. IsRefusalOf config command why) stop
  pub looks : OnlyLooks before after (stop ≡ ReadFault)

-- ---- the page

pub record IsPageFound (config : Config) (before after : FolderState) (page : List ℕ) : Type 0 where
  pub is_page : IfSome before.holds (λ tree. IsPage tree config page)
  pub looks : OnlyLooks before after ⊥

pub record FindsPage (config : Config) (before : FolderState) (result : Result (List ℕ) Stop)
    (after : FolderState) : Type 0 where
  pub found : IfOk result (λ page. IsPageFound config before after page)
  pub asked : IfSome before.asked (λ old. AsksOwn (config.page ∷ []) old after)
  pub stopped : IfErr result (λ stop. EndsBefore Inject config before after stop)

-- ---- the file

pub record HasCounts (generated : Generated) (prepared : Prepared) : Type 0 where
  pub modules : prepared.modules ≡ generated.modules
  pub requests : prepared.requests ≡ generated.requests
  pub mappings : prepared.mappings ≡ generated.mappings

-- a file in memory, as what is written
abbrev pub shown_file : Fresh → NewFile
shown_file file = new_file file.path file.bytes.items

abbrev pub shown_files : Prepared → List NewFile
shown_files prepared = map shown_file prepared.files.items

-- whether a command writes the project beside the map
pub data KeepsProject : Command → Bool → Type 0 where
  link : KeepsProject Link true
  unlink : KeepsProject Unlink true
  refresh : KeepsProject Refresh false

abbrev pub map_files : Config → List ℕ → Bool → List NewFile
map_files config map true = map_and_project config map
map_files config map false = new_file map_path map ∷ []

pub record AreMapFiles (config : Config) (keeps : Bool) (generated : Generated) (prepared : Prepared) : Type 0 where
  pub files : shown_files prepared ≡ map_files config generated.map.items keeps
  pub counts : HasCounts generated prepared

pub record IsPageFile (config : Config) (page : List ℕ) (generated : Generated) (prepared : Prepared) : Type 0 where
  pub new : List ℕ
  pub files : shown_files prepared ≡ new_file config.page new ∷ []
  pub injected : Injection generated.map.items page (Ok new)
  pub counts : HasCounts generated prepared

-- the counts are those of the tree's trace and of its map, and the file carries the map
pub record IsPrepared (command : Command) (config : Config) (tree : Tree) (prepared : Prepared) : Type 0 where
  pub all : Gathered
  pub is_traced : traced (get tree) config ≡ Ok all
  pub few : HasTooManyChoices all.needs → ⊥
  pub layout : ParsedMap
  pub is_fewest : IsFewestLayout all.needs layout
  pub within : length (map_text (map_base config) (with_digests config all layout)) ≤ limit_number Map
  pub modules : prepared.modules ≡ length all.modules
  pub requests : prepared.requests ≡ length all.targets
  pub mappings : prepared.mappings ≡ mapping_count layout
  pub writes :
      Writes tree config (map_text (map_base config) (with_digests config all layout)) command (shown_files prepared)

pub record IsReady (command : Command) (config : Config) (before after : FolderState)
    (prepared : Prepared) : Type 0 where
  pub is_prepared : IfSome before.holds (λ tree. IsPrepared command config tree prepared)
  pub page_is_file : PageIsFile config
  pub looks : OnlyLooks before after ⊥

pub record Prepares (command : Command) (config : Config) (before : FolderState) (result : Result Prepared Stop)
    (after : FolderState) : Type 0 where
  pub ready : IfOk result (λ prepared. IsReady command config before after prepared)
  pub asked : IfSome before.asked (λ old. AsksFew command config before.holds old after)
  pub stopped : IfErr result (λ stop. EndsBefore command config before after stop)
