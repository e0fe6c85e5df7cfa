-- The project of a folder, and the config that a command takes from it.
--     project_path                      the path of the project's file
--     HoldsProject tree found           what its file gives: a config, nothing where there is no file, or a fault
--     page_path, link_conditions        the page and the conditions of a new project
--     linked settings entries found     the config that `link` makes of a project, or of none
--     unlinked entries config           the config that `unlink` leaves of a project
--     config_by asked settings found    the config that a command generates for, or why there is none
--     Configures words tree command outcome   the words ask for this command, and this comes of what the file gives
--     IsConfigOf words tree command config    these words, over this tree, ask for this command with this config
--     RefusesConfig words tree fault    they ask for a command, and there is no config for it
--     AreTaken named entries            no text is named twice, and none of them is an entry
--     HasEntriesOf asked entries        what `link` names is there, and what `unlink` names is taken
--     IsConfigFor words command config  no tree gives them a config that isn't so
--     IsReadLimit, IsReadFault          how a project's file that is there can fail to be read
--     RefusesAsked asked fault          a project, or the want of one, can refuse what is asked for so
--     CanRefuseConfig words fault       no tree refuses them in another way
--     read_fault fault                  a fault of the file's bytes, as a fault of the project
--     read_outcome outcome              what its bytes give, as what the project's file gives
--     without entry entries             the entries without this one
--     config_in asked settings found    the config that a command takes from a project, or from none, or why there is
--                                       none
--     measure_config                    the config of a measure, which needs no project
use Rattle.std.specs.FinMap.{get}
use Rattle.std.specs.List.{IsDistinct, list_any}
use Rattle.std.specs.Prelude.{◌≡◌, ◌≤◌, ◌<◌, ℕ, nat_lt, not, List, [], ◌∷◌, ◌++◌, length, filter, codes, bytes_eq}
use Rattle.std.specs.Prelude.{Option, Some, None, unwrap_or, Result, Ok, Err, All, Contains, if◌then◌else◌}
use Rattle.tree_spec.specs.declared.Entry.TheVariants.{Stored, Directory}
use Rattle.tree_spec.specs.declared.LimitName.{LimitName}
use Rattle.tree_spec.specs.declared.LimitName.TheVariants.{File, Entries, Depth}
use Rattle.tree_spec.specs.Limits.{limit_number}
use Rattle.tree_spec.specs.Trees.{Tree}
use Rattle.project_spec.specs.ProjectFiles as project
use Rattle.project_spec.specs.ProjectFiles.{IsProject, ReadsProject}
use Rattle.trace_spec.specs.Modules.{Config}
use Rattle.words_spec.specs.PlainWords.{Asked, Asks, LinkOptions, linking, unlinking, refreshing, checking}
use Rattle.words_spec.specs.PlainWords.{checking_strictly, listing, injecting, editing, explaining, vendoring}
use Rattle.words_spec.specs.PlainWords.{measuring}
use Rattle.config_spec.specs.declared.Command.{Command}
use Rattle.config_spec.specs.declared.ProjectFault.{ProjectFault}
use Rattle.config_spec.specs.declared.ProjectFault.TheVariants.{Absent, TooLarge, NotProject, Above}
use Rattle.config_spec.specs.declared.ConfigFault.{ConfigFault}
use Rattle.config_spec.specs.declared.ConfigFault.TheVariants.{Project, NoBase, NotLinked, TooManyEntries}
use Rattle.config_spec.specs.Words.{command_of, options_of, Settings, Sets}

-- ---- the file

abbrev pub project_path : List ℕ
project_path = codes "/importmap.project.json"

abbrev pub read_fault : project.Fault → ProjectFault
read_fault (project.BadFile at) = NotProject at
read_fault (project.PassesLimit which) = Above which

abbrev pub read_outcome : Result Config project.Fault → Result (Option Config) ProjectFault
read_outcome (Ok config) = Ok (Some config)
read_outcome (Err fault) = Err (read_fault fault)

-- own: where no file stands, a folder too, there is no project; a file has at most 16,777,216 bytes
pub data HoldsProject (tree : Tree) : Result (Option Config) ProjectFault → Type 0 where
  absent : get tree project_path ≡ None → HoldsProject tree (Ok None)
  folder : get tree project_path ≡ Some Directory → HoldsProject tree (Ok None)
  too_large :
      (bytes : List ℕ) → get tree project_path ≡ Some (Stored bytes) → limit_number File < length bytes
      → HoldsProject tree (Err TooLarge)
  reads :
      (bytes : List ℕ) (outcome : Result Config project.Fault) → get tree project_path ≡ Some (Stored bytes)
      → length bytes ≤ limit_number File → ReadsProject bytes outcome → HoldsProject tree (read_outcome outcome)

-- ---- the config

abbrev pub page_path : List ℕ
page_path = codes "/index.html"

-- own: the conditions of a browser's modules
abbrev pub link_conditions : List (List ℕ)
link_conditions = codes "browser" ∷ codes "import" ∷ []

-- own: a page that asks for the application of the stated tree
abbrev pub measure_config : Config
measure_config = record {
  base = codes "https://app.test/";
  page = page_path;
  conditions = link_conditions;
  entries = codes "./app.mjs" ∷ [];
}

-- own: each text once, behind those that are there
abbrev pub once_onto : List (List ℕ) → List (List ℕ) → List (List ℕ)
once_onto seen [] = seen
once_onto seen (text ∷ texts) = once_onto (if list_any (bytes_eq text) seen then seen else seen ++ text ∷ []) texts

-- own: at most 1,024 entries
abbrev pub with_few : Config → Result Config ConfigFault
with_few config = if nat_lt (limit_number Entries) (length config.entries) then Err TooManyEntries else Ok config

-- own: a value that is given stands before that of the project, or of a new project
abbrev pub set_over : Settings → List ℕ → List ℕ → List (List ℕ) → List (List ℕ) → Config
set_over settings base page conditions entries = record {
  base = unwrap_or settings.base base;
  page = unwrap_or settings.page page;
  conditions = unwrap_or settings.conditions conditions;
  entries = entries;
}

-- own: a new project needs a base
abbrev pub new_project : Settings → Option (List ℕ) → List (List ℕ) → Result Config ConfigFault
new_project settings None entries = Err NoBase
new_project settings (Some base) entries =
    with_few (set_over settings base page_path link_conditions (once_onto [] entries))

abbrev pub linked : Settings → List (List ℕ) → Option Config → Result Config ConfigFault
linked settings entries None = new_project settings settings.base entries
linked settings entries (Some old) =
    with_few (set_over settings old.base old.page old.conditions (once_onto old.entries entries))

abbrev pub without : List ℕ → List (List ℕ) → List (List ℕ)
without entry entries = filter (λ other. not (bytes_eq entry other)) entries

-- own: entries are taken out one after another; each must be there when its turn comes
abbrev pub unlinked : List (List ℕ) → Config → Result Config ConfigFault
unlinked [] config = Ok config
unlinked (entry ∷ more) config =
    if list_any (bytes_eq entry) config.entries
    then unlinked more (record config { entries = without entry config.entries })
    else Err (NotLinked entry)

-- own: every command but `link` needs a project
abbrev pub if_there : Option Config → (Config → Result Config ConfigFault) → Result Config ConfigFault
if_there None next = Err (Project Absent)
if_there (Some config) next = next config

abbrev pub config_in : Asked → Settings → Option Config → Result Config ConfigFault
config_in (linking options entries) settings found = linked settings entries found
config_in (unlinking entries) settings found = if_there found (unlinked entries)
config_in refreshing settings found = if_there found Ok
config_in checking settings found = if_there found Ok
config_in checking_strictly settings found = if_there found Ok
config_in listing settings found = if_there found Ok
config_in injecting settings found = if_there found Ok
config_in editing settings found = if_there found Ok
config_in (explaining path) settings found = if_there found Ok
config_in (vendoring path) settings found = if_there found Ok
config_in (measuring number) settings found = if_there found Ok

abbrev pub config_by : Asked → Settings → Result (Option Config) ProjectFault → Result Config ConfigFault
config_by asked settings (Err fault) = Err (Project fault)
config_by asked settings (Ok found) = config_in asked settings found

-- own: the words ask for this command, and what the project's file holds comes to this config or refusal
pub record Configures (words : List (List ℕ)) (tree : Tree) (command : Command)
    (outcome : Result Config ConfigFault) : Type 0 where
  pub asked : Asked
  pub asks : Asks words asked
  pub is : command_of asked ≡ Some command
  pub settings : Settings
  pub sets : Sets (options_of asked) settings
  pub found : Result (Option Config) ProjectFault
  pub holds : HoldsProject tree found
  pub comes : outcome ≡ config_by asked settings found

abbrev pub IsConfigOf : List (List ℕ) → Tree → Command → Config → Type 0
IsConfigOf words tree command config = Configures words tree command (Ok config)

pub record RefusesConfig (words : List (List ℕ)) (tree : Tree) (fault : ConfigFault) : Type 0 where
  pub command : Command
  pub configures : Configures words tree command (Err fault)

-- ---- whatever the tree holds

-- own: what `unlink` names is gone afterwards; each was there at its turn, so none is named twice
pub record AreTaken (named entries : List (List ℕ)) : Type 0 where
  pub distinct : IsDistinct bytes_eq named
  pub gone : All (λ entry. Contains entries entry → ⊥) named

-- own: after `link` each of its entries is there, and after `unlink` none of them is
abbrev pub HasEntriesOf : Asked → List (List ℕ) → Type 0
HasEntriesOf (linking options named) entries = All (Contains entries) named
HasEntriesOf (unlinking named) entries = AreTaken named entries
HasEntriesOf refreshing entries = Unit {0}
HasEntriesOf checking entries = Unit {0}
HasEntriesOf checking_strictly entries = Unit {0}
HasEntriesOf listing entries = Unit {0}
HasEntriesOf injecting entries = Unit {0}
HasEntriesOf editing entries = Unit {0}
HasEntriesOf (explaining path) entries = Unit {0}
HasEntriesOf (vendoring path) entries = Unit {0}
HasEntriesOf (measuring number) entries = Unit {0}

-- own: a project whose file can be written; where an option is given, its value stands; and so for the entries
pub record IsConfigFor (words : List (List ℕ)) (command : Command) (config : Config) : Type 0 where
  pub asked : Asked
  pub asks : Asks words asked
  pub is : command_of asked ≡ Some command
  pub settings : Settings
  pub sets : Sets (options_of asked) settings
  pub kept : config ≡ set_over settings config.base config.page config.conditions config.entries
  pub is_project : IsProject config
  pub entries : HasEntriesOf asked config.entries
  pub few : length config.entries ≤ limit_number Entries

-- own: a limit that the file of a project can pass as it is read
pub data IsReadLimit : LimitName → Type 0 where
  of_entries : IsReadLimit Entries
  of_depth : IsReadLimit Depth

pub data IsReadFault : ProjectFault → Type 0 where
  too_large : IsReadFault TooLarge
  not_project : (at : ℕ) → IsReadFault (NotProject at)
  above : (which : LimitName) → IsReadLimit which → IsReadFault (Above which)

pub data RefusesAsked : Asked → ConfigFault → Type 0 where
  bad_project : (asked : Asked) (fault : ProjectFault) → IsReadFault fault → RefusesAsked asked (Project fault)
  no_project :
      (asked : Asked) → ((options : LinkOptions) (entries : List (List ℕ)) → asked ≡ linking options entries → ⊥)
      → RefusesAsked asked (Project Absent)
  no_base :
      (options : LinkOptions) (entries : List (List ℕ)) → options.base ≡ None
      → RefusesAsked (linking options entries) NoBase
  too_many_entries :
      (options : LinkOptions) (entries : List (List ℕ)) → RefusesAsked (linking options entries) TooManyEntries
  not_linked :
      (entries front : List (List ℕ)) (entry : List ℕ) (rest : List (List ℕ)) → entries ≡ front ++ entry ∷ rest
      → IsDistinct bytes_eq front → RefusesAsked (unlinking entries) (NotLinked entry)

pub record CanRefuseConfig (words : List (List ℕ)) (fault : ConfigFault) : Type 0 where
  pub command : Command
  pub asked : Asked
  pub asks : Asks words asked
  pub is : command_of asked ≡ Some command
  pub settings : Settings
  pub sets : Sets (options_of asked) settings
  pub refuses : RefusesAsked asked fault
