-- What the words of a command line say of a command, before any look.
--     command_of asked                  the command that is asked for, where there is one
--     options_of asked                  the options that stand in the words
--     Settings, Sets options settings   what the texts of the options give
--     no_settings                       no option is given
--     RefusesOptions options fault      the text of an option is refused
--     IsPlain words                     the words have a meaning
--     IsCommandOf words command         they ask for this command, and none of their texts is refused
--     Measures words number             they ask for the map of a stated tree of so many packages
--     AsksWhy words path                they ask why the file at this path is loaded
--     VendorsTo words path              they ask to copy what the map needs to this path
--     IsSession words                   they ask for a session on a project
--     RefusesWords words fault          plain words that ask for a command and have such a text, or that ask for a file
--                                       by what isn't a path, or for copies in the root or in what isn't a path
--     is_page_path text                 a text is a path other than the root's
use Rattle.std.specs.Prelude.{◌≡◌, ◌&&◌, ℕ, Bool, not, List, Option, Some, None, codes, bytes_eq, if◌then◌else◌}
use Rattle.tree_spec.specs.Paths.{IsPath}
use Rattle.url_spec.specs.Bases.{base_of}
use Rattle.url_spec.specs.PathTests.{is_path}
use Rattle.node_spec.specs.Conditions.{AreConditions, names_in}
use Rattle.project_spec.specs.ProjectFiles.{IsPagePath}
use Rattle.words_spec.specs.PlainWords.{Asked, Asks, LinkOptions, no_options, linking, unlinking, refreshing, checking}
use Rattle.words_spec.specs.PlainWords.{checking_strictly, listing, injecting, editing, explaining, vendoring}
use Rattle.words_spec.specs.PlainWords.{measuring}
use Rattle.config_spec.specs.declared.Command.{Command}
use Rattle.config_spec.specs.declared.Command.TheVariants.{Link, Unlink, Refresh, Inject, Check, CheckStrictly, Why}
use Rattle.config_spec.specs.declared.Command.TheVariants.{Vendor}
use Rattle.config_spec.specs.declared.Command.TheVariants.{List as Lists}
use Rattle.config_spec.specs.declared.ConfigFault.{ConfigFault}
use Rattle.config_spec.specs.declared.ConfigFault.TheVariants.{BadBase, BadPath, BadConditions}

-- own: as IsPagePath says it
abbrev pub is_page_path : List ℕ → Bool
is_page_path text = is_path text && not (bytes_eq text (codes "/"))

-- own: a session is no command that ends by itself, a measure needs no project, no file is asked for by what isn't a
-- path, and no folder of copies either, which isn't the root
abbrev pub command_of : Asked → Option Command
command_of (linking options entries) = Some Link
command_of (unlinking entries) = Some Unlink
command_of refreshing = Some Refresh
command_of checking = Some Check
command_of checking_strictly = Some CheckStrictly
command_of injecting = Some Inject
command_of listing = Some Lists
command_of editing = None
command_of (explaining path) = if is_path path then Some Why else None
command_of (vendoring path) = if is_page_path path then Some Vendor else None
command_of (measuring number) = None

abbrev pub options_of : Asked → LinkOptions
options_of (linking options entries) = options
options_of (unlinking entries) = no_options
options_of refreshing = no_options
options_of checking = no_options
options_of checking_strictly = no_options
options_of injecting = no_options
options_of listing = no_options
options_of editing = no_options
options_of (explaining path) = no_options
options_of (vendoring path) = no_options
options_of (measuring number) = no_options

-- ---- options

-- own: a base, the path of a page and conditions, each where its option is given
pub record Settings : Type 0 where
  pub base : Option (List ℕ)
  pub page : Option (List ℕ)
  pub conditions : Option (List (List ℕ))

abbrev pub no_settings : Settings
no_settings = record { base = None; page = None; conditions = None }

-- own: where no text is given, nothing is set; a text that gives a base sets that base
pub data SetsBase : Option (List ℕ) → Option (List ℕ) → Type 0 where
  none : SetsBase None None
  given : (text url : List ℕ) → base_of text ≡ Some url → SetsBase (Some text) (Some url)

-- own: where no text is given, nothing is set; a text that is the path of a page sets itself
pub data SetsPage : Option (List ℕ) → Option (List ℕ) → Type 0 where
  none : SetsPage None None
  given : (text : List ℕ) → IsPagePath text → SetsPage (Some text) (Some text)

-- own: where no text is given, nothing is set; a text whose names can be conditions sets these
pub data SetsConditions : Option (List ℕ) → Option (List (List ℕ)) → Type 0 where
  none : SetsConditions None None
  given : (text : List ℕ) → AreConditions (names_in text) → SetsConditions (Some text) (Some (names_in text))

-- own: the base that a text gives, a page's path, and the conditions between the commas of a text
pub record Sets (options : LinkOptions) (settings : Settings) : Type 0 where
  pub base : SetsBase options.base settings.base
  pub page : SetsPage options.page settings.page
  pub conditions : SetsConditions options.conditions settings.conditions

-- own: the base is judged before the page, and the page before the conditions
pub data RefusesOptions (options : LinkOptions) : ConfigFault → Type 0 where
  bad_base : (text : List ℕ) → options.base ≡ Some text → base_of text ≡ None → RefusesOptions options (BadBase text)
  bad_path :
      (base : Option (List ℕ)) (text : List ℕ) → SetsBase options.base base → options.page ≡ Some text
      → (IsPagePath text → ⊥) → RefusesOptions options (BadPath text)
  bad_conditions :
      (base page : Option (List ℕ)) (text : List ℕ) → SetsBase options.base base → SetsPage options.page page
      → options.conditions ≡ Some text → (AreConditions (names_in text) → ⊥)
      → RefusesOptions options (BadConditions text)

-- ---- words

pub record IsPlain (words : List (List ℕ)) : Type 0 where
  pub asked : Asked
  pub asks : Asks words asked

pub record IsCommandOf (words : List (List ℕ)) (command : Command) : Type 0 where
  pub asked : Asked
  pub asks : Asks words asked
  pub is : command_of asked ≡ Some command
  pub settings : Settings
  pub sets : Sets (options_of asked) settings

abbrev pub Measures : List (List ℕ) → ℕ → Type 0
Measures words number = Asks words (measuring number)

abbrev pub AsksWhy : List (List ℕ) → List ℕ → Type 0
AsksWhy words path = Asks words (explaining path)

abbrev pub VendorsTo : List (List ℕ) → List ℕ → Type 0
VendorsTo words path = Asks words (vendoring path)

abbrev pub IsSession : List (List ℕ) → Type 0
IsSession words = Asks words editing

pub data RefusesWords (words : List (List ℕ)) : ConfigFault → Type 0 where
  bad_option :
      (asked : Asked) (command : Command) (fault : ConfigFault) → Asks words asked → command_of asked ≡ Some command
      → RefusesOptions (options_of asked) fault → RefusesWords words fault
  bad_file : (path : List ℕ) → AsksWhy words path → (IsPath path → ⊥) → RefusesWords words (BadPath path)
  bad_folder : (path : List ℕ) → VendorsTo words path → (IsPagePath path → ⊥) → RefusesWords words (BadPath path)
