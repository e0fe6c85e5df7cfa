-- What a command needs before its trace, why it is refused, and what it writes.
--     IsGenerating command                the command generates a map
--     SaysCounts command                  the command writes the map that it generates, and says how much that has
--     IsPage tree config page             the page's file, which has no more bytes than a file may
--     RefusesPage tree config fault       there is no page to put a map into
--     map_path, map_file_limit            the path of the map's file, and how many bytes that may have
--     IsMapText tree text                 the map's file
--     ReadsMap config text outcome        what the text is read as, against the page's URL
--     HoldsMap tree config map            the map's file is read as this map
--     RefusesMapFile tree config fault    there is no map to check
--     IsMapping command                   the command writes the map's file
--     IsChecking command                  the command checks the map's file
--     Opens tree config command           what the command needs before its trace is there
--     Refuses tree config command why     the command is refused: before its trace, by the first refusal of that, or
--                                         for the choices of a specifier, for the size of its map, or for a module
--                                         that is nested too deep
--     IsRefusalOf config command why      it can be refused so, whatever the tree holds
--     NewFile                             a file that is written: its path and its bytes
--     map_and_project config map          the map's file, and then the project's
--     Writes tree config map command files      with the map the command writes these files, in this order
--     map_file_fault fault                a fault of the text of a map, as it is told of the map's file
--     new_file path bytes                 the file with this path and these bytes
use Rattle.std.specs.Prelude.{◌≡◌, ◌≤◌, ◌<◌, ⊤, ℕ, List, [], ◌∷◌, length, Some, None, Result, Ok, Err, codes}
use Rattle.std.specs.FinMap.{get}
use Rattle.tree_spec.specs.declared.Entry.TheVariants.{Stored, Directory}
use Rattle.tree_spec.specs.declared.LimitName.TheVariants.{File, Map, Choices}
use Rattle.tree_spec.specs.Limits.{limit_number}
use Rattle.tree_spec.specs.Trees.{Tree}
use Rattle.json_spec.specs.Grammar as json
use Rattle.page_spec.specs.declared.kinds.InjectFault.{InjectFault}
use Rattle.page_spec.specs.declared.kinds.InjectFault.TheVariants.{PageUnclear, TwoMaps, NoPlace, Memory}
use Rattle.page_spec.specs.Injection as injection
use Rattle.page_spec.specs.Injection.{Injection, TakesMaps}
use Rattle.grammar_spec.specs.declared.answer.Strict.{Strict}
use Rattle.import_map_spec.specs.ParsedMap as parsed
use Rattle.import_map_spec.specs.ParsedMap.{ParsedMap, MapFault}
use Rattle.import_map_spec.specs.Parsing.{ParsesMap}
use Rattle.trace_spec.specs.declared.TraceFault.{TraceFault}
use Rattle.trace_spec.specs.Checks.{Gathered}
use Rattle.trace_spec.specs.Kinds.{IsOfTrace}
use Rattle.trace_spec.specs.Modules.{Config, web_name}
use Rattle.trace_spec.specs.Traces.{traced}
use Rattle.trace_spec.specs.Walking.{the_page}
use Rattle.config_spec.specs.declared.Command.{Command}
use Rattle.config_spec.specs.declared.Command.TheVariants.{Link, Unlink, Refresh, Inject, Check, CheckStrictly, Why}
use Rattle.config_spec.specs.declared.Command.TheVariants.{Vendor}
use Rattle.config_spec.specs.declared.Command.TheVariants.{List as Lists}
use Rattle.generator_spec.specs.declared.MapFileFault.{MapFileFault}
use Rattle.generator_spec.specs.declared.MapFileFault.TheVariants as map_fault
use Rattle.generator_spec.specs.declared.PageFault.{PageFault}
use Rattle.generator_spec.specs.declared.PageFault.TheVariants.{Absent, TooLarge, KeepsMapsOut}
use Rattle.generator_spec.specs.declared.Refusal.{Refusal}
use Rattle.generator_spec.specs.declared.Refusal.TheVariants.{Page, MapFile, Trace, Limit, NestedTooDeep}
use Rattle.generator_spec.specs.Generation.{IsTooWide, IsTooLarge}
use Rattle.generator_spec.specs.Strictness.{AreSaid, IsNested}
use Rattle.config_spec.specs.Projects.{project_path}
use Rattle.project_spec.specs.ProjectFiles.{project_text}

-- own: `check`, `list` and `why` trace, and generate nothing
abbrev pub IsGenerating : Command → Type 0
IsGenerating Link = ⊤
IsGenerating Unlink = ⊤
IsGenerating Refresh = ⊤
IsGenerating Inject = ⊤
IsGenerating Check = ⊥
IsGenerating CheckStrictly = ⊥
IsGenerating Lists = ⊥
IsGenerating Why = ⊥
IsGenerating Vendor = ⊤

-- own: `vendor` generates, and writes copies alone
abbrev pub SaysCounts : Command → Type 0
SaysCounts Link = ⊤
SaysCounts Unlink = ⊤
SaysCounts Refresh = ⊤
SaysCounts Inject = ⊤
SaysCounts Check = ⊥
SaysCounts CheckStrictly = ⊥
SaysCounts Lists = ⊥
SaysCounts Why = ⊥
SaysCounts Vendor = ⊥

-- ---- the page

-- own: a file of at most 16,777,216 bytes
pub record IsPage (tree : Tree) (config : Config) (page : List ℕ) : Type 0 where
  pub stands : get tree config.page ≡ Some (Stored page)
  pub small : length page ≤ limit_number File

-- own: nothing or a folder stands there, or too large a file, or a page that keeps each map out
pub data RefusesPage (tree : Tree) (config : Config) : PageFault → Type 0 where
  absent : get tree config.page ≡ None → RefusesPage tree config Absent
  folder : get tree config.page ≡ Some Directory → RefusesPage tree config Absent
  too_large :
      (page : List ℕ) → get tree config.page ≡ Some (Stored page) → limit_number File < length page
      → RefusesPage tree config TooLarge
  keeps_out :
      (page : List ℕ) (fault : InjectFault) → IsPage tree config page → injection.KeepsMapsOut page fault
      → RefusesPage tree config (KeepsMapsOut fault)

-- ---- the map's file

abbrev pub map_path : List ℕ
map_path = codes "/importmap.json"

-- own: as many bytes as a map that is written
abbrev pub map_file_limit : ℕ
map_file_limit = limit_number Map

-- own: a file of at most 67,108,864 bytes
pub record IsMapText (tree : Tree) (text : List ℕ) : Type 0 where
  pub stands : get tree map_path ≡ Some (Stored text)
  pub small : length text ≤ map_file_limit

-- HTML, import maps, parse an import map string: against the page's URL
pub record ReadsMap (config : Config) (text : List ℕ) (outcome : Result ParsedMap MapFault) : Type 0 where
  pub base : List ℕ
  pub named : web_name config the_page ≡ Some base
  pub parses : ParsesMap base text outcome

pub record HoldsMap (tree : Tree) (config : Config) (map : ParsedMap) : Type 0 where
  pub text : List ℕ
  pub stands : IsMapText tree text
  pub reads : ReadsMap config text (Ok map)

abbrev pub map_file_fault : MapFault → MapFileFault
map_file_fault (parsed.NoJson (json.NotJson at)) = map_fault.NotJson at
map_file_fault (parsed.NoJson (json.TooDeep at)) = map_fault.TooDeep
map_file_fault (parsed.NotObject part) = map_fault.NotObject part

-- own: nothing or a folder stands there, or too large a file, or a text that is no import map
pub data RefusesMapFile (tree : Tree) (config : Config) (why : MapFileFault) : Type 0 where
  absent : get tree map_path ≡ None → why ≡ map_fault.Absent → RefusesMapFile tree config why
  folder : get tree map_path ≡ Some Directory → why ≡ map_fault.Absent → RefusesMapFile tree config why
  too_large :
      (text : List ℕ) → get tree map_path ≡ Some (Stored text) → map_file_limit < length text
      → why ≡ map_fault.TooLarge → RefusesMapFile tree config why
  no_map :
      (text : List ℕ) (fault : MapFault) → IsMapText tree text → ReadsMap config text (Err fault)
      → why ≡ map_file_fault fault → RefusesMapFile tree config why

-- ---- before the trace

-- the command writes the map's file
pub data IsMapping : Command → Type 0 where
  link : IsMapping Link
  unlink : IsMapping Unlink
  refresh : IsMapping Refresh

-- the command checks the map's file
pub data IsChecking : Command → Type 0 where
  plainly : IsChecking Check
  strictly : IsChecking CheckStrictly

-- own: `inject` needs a page that takes maps, `check` a map, and the others nothing; a page without a URL gives `check`
-- no map base, and is refused by the trace
pub data Opens (tree : Tree) (config : Config) : Command → Type 0 where
  nothing : (command : Command) → IsMapping command → Opens tree config command
  page : (page : List ℕ) → IsPage tree config page → TakesMaps page → Opens tree config Inject
  has_map :
      (command : Command) → IsChecking command → (map : ParsedMap) → HoldsMap tree config map
      → Opens tree config command
  no_base :
      (command : Command) → IsChecking command → (text : List ℕ) → IsMapText tree text
      → web_name config the_page ≡ None → Opens tree config command
  no_file : Opens tree config Lists
  no_other_file : Opens tree config Why
  nothing_first : Opens tree config Vendor

-- own: the command's file comes before the trace, and behind it a specifier's choices, and then the size of the map; or
-- the nesting of the modules, where these are checked
pub data Refuses (tree : Tree) (config : Config) : Command → Refusal → Type 0 where
  page : (fault : PageFault) → RefusesPage tree config fault → Refuses tree config Inject (Page fault)
  map_file :
      (command : Command) (fault : MapFileFault) → IsChecking command → RefusesMapFile tree config fault
      → Refuses tree config command (MapFile fault)
  trace :
      (command : Command) (fault : TraceFault) → Opens tree config command → traced (get tree) config ≡ Err fault
      → Refuses tree config command (Trace fault)
  many_choices :
      (command : Command) → IsGenerating command → Opens tree config command → IsTooWide tree config
      → Refuses tree config command (Limit Choices)
  large_map :
      (command : Command) → IsGenerating command → Opens tree config command → IsTooLarge tree config
      → Refuses tree config command (Limit Map)
  nested :
      (map : ParsedMap) (all : Gathered) (answers : List Strict) → HoldsMap tree config map
      → traced (get tree) config ≡ Ok all → AreSaid all.sources answers → IsNested answers
      → Refuses tree config CheckStrictly NestedTooDeep

-- ---- whatever the tree holds

-- own: a page isn't refused for want of memory
abbrev pub IsOfPage : PageFault → Type 0
IsOfPage Absent = ⊤
IsOfPage TooLarge = ⊤
IsOfPage (KeepsMapsOut (PageUnclear at)) = ⊤
IsOfPage (KeepsMapsOut (TwoMaps at)) = ⊤
IsOfPage (KeepsMapsOut NoPlace) = ⊤
IsOfPage (KeepsMapsOut Memory) = ⊥

pub data IsRefusalOf (config : Config) : Command → Refusal → Type 0 where
  page : (fault : PageFault) → IsOfPage fault → IsRefusalOf config Inject (Page fault)
  map_file :
      (command : Command) (fault : MapFileFault) → IsChecking command → IsRefusalOf config command (MapFile fault)
  trace :
      (command : Command) (fault : TraceFault) → IsOfTrace config fault → IsRefusalOf config command (Trace fault)
  many_choices : (command : Command) → IsGenerating command → IsRefusalOf config command (Limit Choices)
  large_map : (command : Command) → IsGenerating command → IsRefusalOf config command (Limit Map)
  nested : IsRefusalOf config CheckStrictly NestedTooDeep

-- ---- what is written

pub record NewFile : Type 0 where
  pub path : List ℕ
  pub bytes : List ℕ

abbrev pub new_file : List ℕ → List ℕ → NewFile
new_file path bytes = record { path = path; bytes = bytes }

abbrev pub map_and_project : Config → List ℕ → List NewFile
map_and_project config map = new_file map_path map ∷ new_file project_path (project_text config) ∷ []

-- own: `link` and `unlink` write the map and then the project's file, `refresh` the map, and `inject` the page with the
-- map in it
pub data Writes (tree : Tree) (config : Config) (map : List ℕ) : Command → List NewFile → Type 0 where
  linked : Writes tree config map Link (map_and_project config map)
  unlinked : Writes tree config map Unlink (map_and_project config map)
  refreshed : Writes tree config map Refresh (new_file map_path map ∷ [])
  in_page :
      (page new : List ℕ) → IsPage tree config page → Injection map page (Ok new)
      → Writes tree config map Inject (new_file config.page new ∷ [])
