-- How a command ends where no fault and no want of memory comes between.
--     RefusesRun words tree why                  why a run is refused: the first reason in its order
--     ComesTo words tree status lines files      the exit status, what the command says, and the files that it writes
--     FilesPlaced tree files after               the files are written, one after another
--     Outcome words tree status lines after      what it comes to, and the tree that it leaves
use Rattle.std.specs.Prelude.{◌≡◌, ◌++◌, ℕ, List, [], ◌∷◌, Ok, length}
use Rattle.std.specs.FinMap.{get}
use Rattle.tree_spec.specs.declared.Entry.TheVariants.{Stored}
use Rattle.tree_spec.specs.Trees.{Tree, Places}
use Rattle.import_map_spec.specs.ParsedMap.{ParsedMap}
use Rattle.trace_spec.specs.Checks.{Gathered}
use Rattle.trace_spec.specs.Modules.{Config}
use Rattle.trace_spec.specs.Traces.{traced}
use Rattle.config_spec.specs.declared.Command.{Command}
use Rattle.config_spec.specs.declared.Command.TheVariants.{Why, Vendor, List as Lists}
use Rattle.config_spec.specs.declared.ConfigFault.{ConfigFault}
use Rattle.generator_spec.specs.declared.Refusal.{Refusal}
use Rattle.generator_spec.specs.declared.Refusal.TheVariants.{Config as Configured}
use Rattle.generator_spec.specs.Checking.{difference_lines, SaysOfModules, check_status, check_lines}
use Rattle.generator_spec.specs.Listing.{list_lines}
use Rattle.generator_spec.specs.CopiedMaps.{generation_paths}
use Rattle.generator_spec.specs.Explaining.{SaysWhy}
use Rattle.generator_spec.specs.Vendoring.{copied_files, RefusesCopies, Vendors}
use Rattle.generator_spec.specs.Commands.{HoldsMap, Refuses, NewFile, Writes}
use Rattle.generator_spec.specs.Generation.{Generates}
use Rattle.generator_spec.specs.Statuses.{done_status, words_status}
use Rattle.config_spec.specs.Words.{AsksWhy, IsPlain, Measures, RefusesWords, VendorsTo}
use Rattle.config_spec.specs.Projects.{IsConfigOf, RefusesConfig, measure_config}
use Rattle.generator_spec.specs.Lines.{status_of, line_of, done_line, measured_line, vendored_line}
use Rattle.generator_spec.specs.Measuring.{RefusesMeasure}
use Rattle.vendor_spec.specs.Vendored.{Pair}
use Rattle.workload_spec.specs.Packages.{tree_of}

-- own: a refusal comes of the words, or else of the project, or else of what the command needs, or else it is the first
-- one of the trace, or that of a specifier with too many choices, or else of a map that is too large, or else of copies;
-- or it is that of a measure. It writes nothing
pub data RefusesRun (words : List (List ℕ)) (tree : Tree) : Refusal → Type 0 where
  by_words : (fault : ConfigFault) → RefusesWords words fault → RefusesRun words tree (Configured fault)
  by_project : (fault : ConfigFault) → RefusesConfig words tree fault → RefusesRun words tree (Configured fault)
  by_tree :
      (command : Command) (config : Config) (why : Refusal) → IsConfigOf words tree command config
      → Refuses tree config command why → RefusesRun words tree why
  by_copies :
      (to : List ℕ) (config : Config) (map : List ℕ) (why : Refusal) → VendorsTo words to
      → IsConfigOf words tree Vendor config → Generates tree config map
      → RefusesCopies tree to (generation_paths tree config) why → RefusesRun words tree why
  by_measure : (number : ℕ) (why : Refusal) → Measures words number → RefusesMeasure number why → RefusesRun words tree why

-- own: a refusal writes nothing. Where nothing is refused, the command's files are written, with the map that is
-- generated; or it is said which of the trace's needs the map that is there doesn't serve, and behind that, where it is
-- asked to check strictly, which modules don't agree with the statement grammar; or which modules it has, or by which
-- requests the page comes to load a file, if it does. Where copies are asked for, the files of the generation's
-- footprint are written below the folder, in byte order, and it is said how many.
-- A measure says how much is generated for its own tree, whatever the folder holds. Words without a meaning are answered
-- with some text
pub data ComesTo (words : List (List ℕ)) (tree : Tree) (status : ℕ) (lines : List (List ℕ))
    (files : List NewFile) : Type 0 where
  not_plain :
      (text : List ℕ) → (IsPlain words → ⊥) → status ≡ words_status → lines ≡ text ∷ [] → files ≡ []
      → ComesTo words tree status lines files
  refused :
      (why : Refusal) → RefusesRun words tree why → status ≡ status_of why → lines ≡ line_of why ∷ [] → files ≡ []
      → ComesTo words tree status lines files
  written :
      (command : Command) (config : Config) (map : List ℕ) → IsConfigOf words tree command config
      → (generates : Generates tree config map) → Writes tree config map command files → status ≡ done_status
      → lines ≡ done_line generates.all generates.layout ∷ [] → ComesTo words tree status lines files
  checked :
      (command : Command) (config : Config) (map : ParsedMap) (all : Gathered) (strict : List (List ℕ))
      → IsConfigOf words tree command config → HoldsMap tree config map → traced (get tree) config ≡ Ok all
      → SaysOfModules all command strict → status ≡ check_status (difference_lines map all ++ strict)
      → lines ≡ check_lines (length all.needs) (difference_lines map all ++ strict) → files ≡ []
      → ComesTo words tree status lines files
  listed :
      (config : Config) (all : Gathered) → IsConfigOf words tree Lists config → traced (get tree) config ≡ Ok all
      → status ≡ done_status → lines ≡ list_lines all → files ≡ [] → ComesTo words tree status lines files
  explained :
      (path : List ℕ) (config : Config) (all : Gathered) → AsksWhy words path → IsConfigOf words tree Why config
      → traced (get tree) config ≡ Ok all → SaysWhy (get tree) config path status lines → files ≡ []
      → ComesTo words tree status lines files
  vendored :
      (to : List ℕ) (pairs : List Pair) → Vendors words tree to pairs → status ≡ done_status
      → lines ≡ vendored_line (length pairs) ∷ [] → files ≡ copied_files to pairs
      → ComesTo words tree status lines files
  measured :
      (number : ℕ) (map : List ℕ) → Measures words number → (generates : Generates (tree_of number) measure_config map)
      → status ≡ done_status → lines ≡ measured_line number generates.all generates.layout ∷ [] → files ≡ []
      → ComesTo words tree status lines files

abbrev pub FilesPlaced : Tree → List NewFile → Tree → Type 0
FilesPlaced tree [] after = after ≡ tree
FilesPlaced tree (file ∷ files) after =
    (middle : Tree) × Places tree file.path (Stored file.bytes) middle × FilesPlaced middle files after

pub record Outcome (words : List (List ℕ)) (tree : Tree) (status : ℕ) (lines : List (List ℕ))
    (after : Tree) : Type 0 where
  pub files : List NewFile
  pub comes : ComesTo words tree status lines files
  pub placed : FilesPlaced tree files after
