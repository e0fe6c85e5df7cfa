-- How a run ends, whatever the outside does.
--     EndsAs words before after out out_after result      all that is promised of folder, output and answer
--     IsDone words tree told         the command did what it is for, and this is told afterwards
--     Linked words tree told         the tree's map was written, this is told afterwards, and the map serves
--     MapServes words tree           the map that is there serves, and where modules are checked, each agrees
--     HasModules words tree          there is a trace, whose modules can be listed
--     IsLoaded words tree            requests lead from the page to the file that is asked for
--     HasCopied words tree told      the files that the map needs were copied, and the copy has the same map
--     IsMeasured words               there is a map of the stated tree
--     Says words before after status lines      why a command ends with this status and these lines
--     Ends status text out out_after result     the text went out and the status is answered, or the output failed
--     TellsRefusal why out out_after result     the same of a refusal, or of want of memory in its place
use Rattle.std.specs.Prelude.{◌≡◌, ◌≢◌, ◌≤◌, ◌<◌, ◌⊎◌, ◌++◌, ℕ, List, [], ◌∷◌, length, All, Contains}
use Rattle.std.specs.Prelude.{Option, Some, None, IfSome, Ok}
use Rattle.std.specs.Prelude.{map, option_map, take}
use Rattle.std.specs.FinMap.{get}
use Rattle.std.specs.List.{concat}
use Rattle.tree_spec.specs.declared.LimitName.TheVariants.{Modules}
use Rattle.tree_spec.specs.Counts.{Rose}
use Rattle.tree_spec.specs.Limits.{limit_number}
use Rattle.tree_spec.specs.States.{FolderState, SinkState}
use Rattle.tree_spec.specs.Trees.{Tree}
use Rattle.import_map_spec.specs.Resolving.{Resolution, Resolved}
use Rattle.chain_spec.specs.Chains.{IsShortest}
use Rattle.page_spec.specs.ImportMaps.{IsOneMap}
use Rattle.trace_spec.specs.Checks.{Gathered}
use Rattle.trace_spec.specs.Modules.{Config}
use Rattle.trace_spec.specs.Traces.{traced}
use Rattle.config_spec.specs.declared.Command.{Command}
use Rattle.config_spec.specs.declared.Command.TheVariants.{Link, Unlink, Refresh, Inject, Check, CheckStrictly, Why}
use Rattle.config_spec.specs.declared.Command.TheVariants.{Vendor}
use Rattle.config_spec.specs.declared.Command.TheVariants.{List as Lists}
use Rattle.config_spec.specs.declared.ConfigFault.{ConfigFault}
use Rattle.generator_spec.specs.declared.Refusal.{Refusal}
use Rattle.generator_spec.specs.declared.Refusal.TheVariants.{Config as Configured}
use Rattle.generator_spec.specs.Checking.{check_status, check_lines}
use Rattle.generator_spec.specs.Commands.{SaysCounts, IsMapText, Opens, IsRefusalOf, NewFile, Writes}
use Rattle.generator_spec.specs.CopiedMaps.{IsVendored}
use Rattle.generator_spec.specs.Explaining.{asked_by, is_at}
use Rattle.generator_spec.specs.Vendoring.{CanCopy, IsCopyRefusal, Vendors, copied_files}
use Rattle.generator_spec.specs.Generation.{PageIsFile, Generates}
use Rattle.generator_spec.specs.Serves.{Serves, KnowsModules, IsSmallest}
use Rattle.generator_spec.specs.Strictness.{ModulesAgree}
use Rattle.generator_spec.specs.Statuses.{done_status, words_status, read_fault_status, write_fault_status}
use Rattle.generator_spec.specs.Statuses.{memory_status, not_reached_status}
use Rattle.config_spec.specs.Words.{AsksWhy, IsCommandOf, IsPlain, Measures, RefusesWords}
use Rattle.config_spec.specs.Projects.{IsConfigOf, IsConfigFor, CanRefuseConfig, measure_config}
use Rattle.generator_spec.specs.Lines.{status_of, line_of, counts_line, done_line, differs_line, module_line}
use Rattle.generator_spec.specs.Lines.{strict_syntax_line, strict_requests_line}
use Rattle.generator_spec.specs.Lines.{measure_line, vendored_line, from_page_line, asks_line, not_reached_line}
use Rattle.vendor_spec.specs.Vendored.{Pair, IsBelow}
use Rattle.workload_spec.specs.Packages.{tree_of}
use Rattle.generator_spec.specs.Lines.{memory_line, read_fault_line, write_fault_line}
use Rattle.generator_spec.specs.Outcome.{FilesPlaced, Outcome}

-- own: these files were written, and nothing else was changed
pub record AreWritten (tree : Tree) (files : List NewFile) (told : Option Tree) : Type 0 where
  pub after : Tree
  pub is_told : told ≡ Some after
  pub placed : FilesPlaced tree files after

-- own: the map is generation's, for the tree and the config that the words give, whose page is no folder's; what their
-- command needs is there; and the line says of what
pub record IsGenerated (words : List (List ℕ)) (tree : Tree) (map line : List ℕ) : Type 0 where
  pub command : Command
  pub config : Config
  pub is_config : IsConfigOf words tree command config
  pub page_is_file : PageIsFile config
  pub opens : Opens tree config command
  pub generates : Generates tree config map
  pub says : line ≡ done_line generates.all generates.layout

-- own: where a browser finds the map: it is the file, or the raw text of the page's one import map element
abbrev pub IsCarried : Command → List ℕ → NewFile → Type 0
IsCarried Link map file = file.bytes ≡ map
IsCarried Unlink map file = file.bytes ≡ map
IsCarried Refresh map file = file.bytes ≡ map
IsCarried Inject map file = IsOneMap map file.bytes
IsCarried Check map file = ⊥
IsCarried CheckStrictly map file = ⊥
IsCarried Lists map file = ⊥
IsCarried Why map file = ⊥
IsCarried Vendor map file = ⊥

-- own: the command's files are written, of which one carries the map, which is generation's on the tree before, and
-- through it each request of the page and of each module that the page reaches leads to the file that Node's resolver
-- gives, whose digest it has; no map that does so without keys that end in `/` has fewer mappings
pub record Linked (words : List (List ℕ)) (tree : Tree) (told : Option Tree) : Type 0 where
  pub map : List ℕ
  pub line : List ℕ
  pub generated : IsGenerated words tree map line
  pub serves : Serves tree generated.config map
  pub knows : KnowsModules tree generated.config map
  pub smallest : IsSmallest tree generated.config map
  pub files : List NewFile
  pub writes : Writes tree generated.config map generated.command files
  pub carrier : NewFile
  pub is_written : Contains files carrier
  pub carried : IsCarried generated.command map carrier
  pub written : AreWritten tree files told

-- own: it is asked to check the map's file, and through that map each request is led so; and where it is asked to check
-- strictly, the statement grammar matches each module that the page reaches, with the requests of its outline
pub record MapServes (words : List (List ℕ)) (tree : Tree) : Type 0 where
  pub command : Command
  pub config : Config
  pub is_config : IsConfigOf words tree command config
  pub agree : ModulesAgree tree config command
  pub text : List ℕ
  pub stands : IsMapText tree text
  pub serves : Serves tree config text

-- own: it is asked to list the modules, and no request of them is refused
pub record HasModules (words : List (List ℕ)) (tree : Tree) : Type 0 where
  pub config : Config
  pub is_config : IsConfigOf words tree Lists config
  pub all : Gathered
  pub is_traced : traced (get tree) config ≡ Ok all

-- own: it is asked why a file is loaded, and there is a chain of requests that leads to it
pub record IsLoaded (words : List (List ℕ)) (tree : Tree) : Type 0 where
  pub path : List ℕ
  pub asks : AsksWhy words path
  pub config : Config
  pub is_config : IsConfigOf words tree Why config
  pub all : Gathered
  pub is_traced : traced (get tree) config ≡ Ok all
  pub numbers : List ℕ
  pub shortest : IsShortest (asked_by (get tree) config) (is_at config path) numbers

-- own: copies of the files of the generation's footprint were written where nothing stood, and nothing else was changed;
-- the tree below the folder has these files alone, and for it the map is generated that is generated for the old tree
pub record HasCopied (words : List (List ℕ)) (tree : Tree) (told : Option Tree) : Type 0 where
  pub to : List ℕ
  pub pairs : List Pair
  pub vendors : Vendors words tree to pairs
  pub written : AreWritten tree (copied_files to pairs) told
  pub vendored :
      (below : Tree) → IsBelow written.after to below
      → IsVendored tree vendors.config to written.after below vendors.map

-- own: it is asked to measure a stated tree, for which a map is generated
pub record IsMeasured (words : List (List ℕ)) : Type 0 where
  pub number : ℕ
  pub measures : Measures words number
  pub map : List ℕ
  pub generates : Generates (tree_of number) measure_config map

-- own: the map was written; or the map that is there serves, or the modules were listed, or it was told how a file
-- comes to be loaded, or a stated tree was measured, and nothing was written; or copies were
pub data IsDone (words : List (List ℕ)) (tree : Tree) (told : Option Tree) : Type 0 where
  linked : Linked words tree told → IsDone words tree told
  served : MapServes words tree → told ≡ Some tree → IsDone words tree told
  listed : HasModules words tree → told ≡ Some tree → IsDone words tree told
  explained : IsLoaded words tree → told ≡ Some tree → IsDone words tree told
  vendored : HasCopied words tree told → IsDone words tree told
  measured : IsMeasured words → told ≡ Some tree → IsDone words tree told

-- ---- what is said

-- own: the words can have this config of a command that writes a map, and the line is that of a map that is written, with
-- some counts
pub record IsCounted (words : List (List ℕ)) (line : List ℕ) : Type 0 where
  pub command : Command
  pub config : Config
  pub is_config : IsConfigFor words command config
  pub counting : SaysCounts command
  pub modules : ℕ
  pub requests : ℕ
  pub mappings : ℕ
  pub says : line ≡ counts_line modules requests mappings

-- own: some request differs so
pub record IsDifference (line : List ℕ) : Type 0 where
  pub referrer : List ℕ
  pub specifier : List ℕ
  pub wants : List ℕ
  pub gets : Resolution
  pub differs : gets ≢ Resolved wants
  pub says : line ≡ differs_line referrer specifier wants gets

-- own: some module doesn't agree with the statement grammar
pub data IsStrictLine (line : List ℕ) : Type 0 where
  by_syntax : (name : List ℕ) (at : ℕ) → line ≡ strict_syntax_line name at → IsStrictLine line
  by_requests : (name : List ℕ) → line ≡ strict_requests_line name → IsStrictLine line

-- own: `check` says nothing of modules, and `check --strict` no more than there may be modules
pub data AreStrictLines : Command → List (List ℕ) → Type 0 where
  unasked : AreStrictLines Check []
  strictly :
      (lines : List (List ℕ)) → length lines ≤ limit_number Modules → All IsStrictLine lines
      → AreStrictLines CheckStrictly lines

-- own: the words can have this config of a check, and the lines are those of one with some differences, of which there
-- are no more than needs, and behind them those of some modules
pub record IsChecked (words : List (List ℕ)) (status : ℕ) (lines : List (List ℕ)) : Type 0 where
  pub command : Command
  pub config : Config
  pub is_config : IsConfigFor words command config
  pub needs : ℕ
  pub differing : List (List ℕ)
  pub few : length differing ≤ needs
  pub are_differences : All IsDifference differing
  pub strict : List (List ℕ)
  pub are_strict : AreStrictLines command strict
  pub ends : status ≡ check_status (differing ++ strict)
  pub says : lines ≡ check_lines needs (differing ++ strict)

-- own: some module is listed so
pub record IsModuleLine (line : List ℕ) : Type 0 where
  pub name : List ℕ
  pub requests : ℕ
  pub says : line ≡ module_line name requests

-- own: the words can have this config of a list, and the lines are those of some modules
pub record IsListing (words : List (List ℕ)) (status : ℕ) (lines : List (List ℕ)) : Type 0 where
  pub config : Config
  pub is_config : IsConfigFor words Lists config
  pub are_modules : All IsModuleLine lines
  pub ends : status ≡ done_status

-- own: requests as they are told: how each is spelled, and path and suffix of the module that it leads to
abbrev pub asks_lines : List (List ℕ × List ℕ) → List (List ℕ)
asks_lines requests = map (λ request. asks_line request.0 request.1) requests

-- own: the first of them is for an entry
abbrev pub BeginsAt : List (List ℕ) → List (List ℕ × List ℕ) → Type 0
BeginsAt entries [] = ⊥
BeginsAt entries (request ∷ more) = Contains entries request.0

-- own: the last of them leads to a module at this path, with any suffix
abbrev pub StopsAt : List ℕ → List (List ℕ × List ℕ) → Type 0
StopsAt path [] = ⊥
StopsAt path (request ∷ []) = (suffix : List ℕ) × (request.1 ≡ path ++ suffix)
StopsAt path (request ∷ next ∷ more) = StopsAt path (next ∷ more)

-- own: the page alone, where the path is its own; else the page and some requests, from an entry to the path, or that
-- none lead there
pub data TellsChain (config : Config) (path : List ℕ) (status : ℕ) (lines : List (List ℕ)) : Type 0 where
  own_page :
      path ≡ config.page → status ≡ done_status → lines ≡ from_page_line config.page ∷ []
      → TellsChain config path status lines
  reached :
      (requests : List (List ℕ × List ℕ)) → path ≢ config.page → BeginsAt config.entries requests
      → StopsAt path requests → status ≡ done_status
      → lines ≡ from_page_line config.page ∷ asks_lines requests → TellsChain config path status lines
  not_reached :
      path ≢ config.page → status ≡ not_reached_status → lines ≡ not_reached_line path ∷ []
      → TellsChain config path status lines

-- own: the words ask why a file is loaded and can have this config, and the lines are those of some chain, or of none
pub record IsExplanation (words : List (List ℕ)) (status : ℕ) (lines : List (List ℕ)) : Type 0 where
  pub path : List ℕ
  pub asks : AsksWhy words path
  pub config : Config
  pub is_config : IsConfigFor words Why config
  pub tells : TellsChain config path status lines

-- own: the line is that of some number of copies
pub record IsCopyCount (words : List (List ℕ)) (status : ℕ) (lines : List (List ℕ)) : Type 0 where
  pub can : CanCopy words
  pub count : ℕ
  pub ends : status ≡ done_status
  pub says : lines ≡ vendored_line count ∷ []

-- own: the line is that of a measure of as many packages as the words ask for, with some counts
pub record IsMeasuring (words : List (List ℕ)) (status : ℕ) (lines : List (List ℕ)) : Type 0 where
  pub number : ℕ
  pub measures : Measures words number
  pub modules : ℕ
  pub requests : ℕ
  pub mappings : ℕ
  pub ends : status ≡ done_status
  pub says : lines ≡ measure_line number modules requests mappings ∷ []

-- own: a run of these words can be refused so, whatever the folder tells
pub data CanRefuse (words : List (List ℕ)) : Refusal → Type 0 where
  by_words : (fault : ConfigFault) → RefusesWords words fault → CanRefuse words (Configured fault)
  by_project : (fault : ConfigFault) → CanRefuseConfig words fault → CanRefuse words (Configured fault)
  by_tree :
      (command : Command) (config : Config) (why : Refusal) → IsConfigFor words command config
      → IsRefusalOf config command why → CanRefuse words why
  by_copies : (can : CanCopy words) (why : Refusal) → IsCopyRefusal can.to why → CanRefuse words why
  by_measure :
      (number : ℕ) (why : Refusal) → Measures words number → IsRefusalOf measure_config Refresh why → CanRefuse words why

-- own: status and lines belong together, whatever the folder tells: they are those of words without a meaning, of a
-- refusal, of a map that is written, of a check, of a list, of a chain of requests, of copies, or of a measure
pub data Shaped (words : List (List ℕ)) (status : ℕ) (lines : List (List ℕ)) : Type 0 where
  not_plain :
      (text : List ℕ) → (IsPlain words → ⊥) → status ≡ words_status → lines ≡ text ∷ [] → Shaped words status lines
  refused :
      (why : Refusal) → CanRefuse words why → status ≡ status_of why → lines ≡ line_of why ∷ []
      → Shaped words status lines
  done : (line : List ℕ) → status ≡ done_status → lines ≡ line ∷ [] → IsCounted words line → Shaped words status lines
  checked : IsChecked words status lines → Shaped words status lines
  listed : IsListing words status lines → Shaped words status lines
  explained : IsExplanation words status lines → Shaped words status lines
  vendored : IsCopyCount words status lines → Shaped words status lines
  measured : IsMeasuring words status lines → Shaped words status lines

-- own: there is a map, whose files were written up to one of them, with which this line would have been said; it serves
-- as that of a command that is done
pub record StopsWriting (words : List (List ℕ)) (tree : Tree) (line : List ℕ) (told : Option Tree) : Type 0 where
  pub map : List ℕ
  pub generated : IsGenerated words tree map line
  pub serves : Serves tree generated.config map
  pub knows : KnowsModules tree generated.config map
  pub smallest : IsSmallest tree generated.config map
  pub files : List NewFile
  pub writes : Writes tree generated.config map generated.command files
  pub count : ℕ
  pub fewer : count < length files
  pub written : AreWritten tree (take count files) told

-- own: copies were written up to one of them
pub record StopsCopying (words : List (List ℕ)) (tree : Tree) (told : Option Tree) : Type 0 where
  pub to : List ℕ
  pub pairs : List Pair
  pub vendors : Vendors words tree to pairs
  pub count : ℕ
  pub fewer : count < length pairs
  pub written : AreWritten tree (take count (copied_files to pairs)) told

-- own: the command has the outcome that is defined, and no fault was counted; or there is want of memory, or a fault
-- that was counted. Then the tree is as it was, or where a write failed those before it were made. A look fails only
-- where the words ask for a command, and a write only where there is a map to write, or copies are
pub data Says (words : List (List ℕ)) (before after : FolderState) (status : ℕ) (lines : List (List ℕ)) : Type 0 where
  outcome :
      Shaped words status lines
      → IfSome before.holds
      (λ tree. (later : Tree) × Outcome words tree status lines later × (after.holds ≡ Some later))
      → after.look_faults ≡ before.look_faults → after.write_faults ≡ before.write_faults
      → Says words before after status lines
  memory :
      status ≡ memory_status → lines ≡ memory_line ∷ [] → after.holds ≡ before.holds
      → after.look_faults ≡ before.look_faults → after.write_faults ≡ before.write_faults
      → Says words before after status lines
  read_fault :
      (command : Command) → IsCommandOf words command → status ≡ read_fault_status
      → lines ≡ read_fault_line ∷ [] → after.holds ≡ before.holds → Rose before.look_faults after.look_faults
      → after.write_faults ≡ before.write_faults → Says words before after status lines
  write_fault :
      (line : List ℕ) → IsCounted words line → IfSome before.holds (λ tree. StopsWriting words tree line after.holds)
      → status ≡ write_fault_status → lines ≡ write_fault_line ∷ []
      → after.look_faults ≡ before.look_faults → Rose before.write_faults after.write_faults
      → Says words before after status lines
  copy_fault :
      CanCopy words → IfSome before.holds (λ tree. StopsCopying words tree after.holds)
      → status ≡ write_fault_status → lines ≡ write_fault_line ∷ []
      → after.look_faults ≡ before.look_faults → Rose before.write_faults after.write_faults
      → Says words before after status lines

-- ---- what goes out

-- own: a front of the text went out
pub record Gives (out out_after : Option (List ℕ)) (text : List ℕ) : Type 0 where
  pub count : ℕ
  pub given : out_after ≡ option_map (λ front. front ++ take count text) out

-- own: the output failed and counted it, a front of the text went out, and 5 is answered; else all of it went out
pub data Ends (status : ℕ) (text : List ℕ) (out out_after : SinkState) (result : ℕ) : Type 0 where
  said :
      result ≡ status → out_after.got ≡ option_map (λ front. front ++ text) out.got → out_after.faults ≡ out.faults
      → Ends status text out out_after result
  output_fault :
      result ≡ write_fault_status → Gives out.got out_after.got text → Rose out.faults out_after.faults
      → Ends status text out out_after result

-- own: a refusal is told, or that memory is wanting
abbrev pub TellsRefusal : Refusal → SinkState → SinkState → ℕ → Type 0
TellsRefusal why out out_after result =
    Ends (status_of why) (line_of why) out out_after result ⊎ Ends memory_status memory_line out out_after result

-- ---- the end

-- own: where 0 is answered, the command did what it is for; the line of a map that is written is said only where it was
pub record EndsAs (words : List (List ℕ)) (before after : FolderState) (out out_after : SinkState)
    (result : ℕ) : Type 0 where
  pub headline : result ≡ done_status → IfSome before.holds (λ tree. IsDone words tree after.holds)
  pub status : ℕ
  pub lines : List (List ℕ)
  pub says : Says words before after status lines
  pub ends : Ends status (concat lines) out out_after result
  pub written : status ≡ done_status → IfSome before.holds (λ tree. IsDone words tree after.holds)
  pub untold : before.holds ≡ None → after.holds ≡ None
  pub looks_later : before.look_faults ≤ after.look_faults
  pub writes_later : before.write_faults ≤ after.write_faults
  pub output_later : out.faults ≤ out_after.faults
