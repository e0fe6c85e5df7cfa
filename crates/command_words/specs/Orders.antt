-- What an order is.
--     command_ordered order, settings_ordered order      its command, and what its options set
--     IsOrderOf order asked      the order is what is asked for
--     IsOrder words order        it is what these words ask for
--     ExplainsAt path asked      it is asked why the file at this path is loaded
--     AsksWhyAt words path       so do these words
--     CopiesTo path asked        it is asked to copy what the map needs to this path
--     VendorsAt words path       so do these words
--     IsWantedOf wanted asked    what is wanted is what is asked for: an order, why a file is loaded, copies, a measure
--                                or a session
--     IsWanted words wanted      it is what these words ask for
use Rattle.std.specs.Prelude.{◌≡◌, ℕ, List, Some, map, string_bytes}
use Rattle.tree_spec.specs.Paths.{IsPath}
use Rattle.config_spec.specs.declared.Command.{Command}
use Rattle.config_spec.specs.declared.Command.TheVariants as command
use Rattle.config_spec.specs.Words.{Settings, Sets, no_settings, command_of, options_of, AsksWhy, VendorsTo, Measures}
use Rattle.config_spec.specs.Words.{IsSession}
use Rattle.project_spec.specs.ProjectFiles.{IsPagePath}
use Rattle.words_spec.specs.PlainWords.{Asked, Asks, LinkOptions, linking, unlinking, refreshing, checking, listing}
use Rattle.words_spec.specs.PlainWords.{checking_strictly, injecting, editing, explaining, vendoring, measuring}
use Rattle.command_words.specs.declared.order.Order.{Order}
use Rattle.command_words.specs.declared.order.Order.TheVariants.{Link, Unlink, Refresh, Check, CheckStrictly, Inject}
use Rattle.command_words.specs.declared.order.Order.TheVariants as order
use Rattle.command_words.specs.declared.order.Wanted.{Wanted}
use Rattle.command_words.specs.declared.order.Wanted.TheVariants as wanted

abbrev pub command_ordered : Order → Command
command_ordered (Link settings entries) = command.Link
command_ordered (Unlink entries) = command.Unlink
command_ordered Refresh = command.Refresh
command_ordered Check = command.Check
command_ordered CheckStrictly = command.CheckStrictly
command_ordered order.List = command.List
command_ordered Inject = command.Inject

abbrev pub settings_ordered : Order → Settings
settings_ordered (Link settings entries) = settings
settings_ordered (Unlink entries) = no_settings
settings_ordered Refresh = no_settings
settings_ordered Check = no_settings
settings_ordered CheckStrictly = no_settings
settings_ordered order.List = no_settings
settings_ordered Inject = no_settings

-- own: what is asked for with the options of the order
abbrev pub asked_with : LinkOptions → Order → Asked
asked_with options (Link settings entries) = linking options (map string_bytes entries.now)
asked_with options (Unlink entries) = unlinking (map string_bytes entries.now)
asked_with options Refresh = refreshing
asked_with options Check = checking
asked_with options CheckStrictly = checking_strictly
asked_with options order.List = listing
asked_with options Inject = injecting

-- own: the command and the entries are those that are asked for, and the settings are what the options set
pub record IsOrderOf (order : Order) (asked : Asked) : Type 0 where
  pub same : asked ≡ asked_with (options_of asked) order
  pub is : command_of asked ≡ Some (command_ordered order)
  pub sets : Sets (options_of asked) (settings_ordered order)

pub record IsOrder (words : List (List ℕ)) (order : Order) : Type 0 where
  pub asked : Asked
  pub asks : Asks words asked
  pub is_order : IsOrderOf order asked

-- own: a file is asked for by its path
pub record ExplainsAt (path : List ℕ) (asked : Asked) : Type 0 where
  pub is : asked ≡ explaining path
  pub is_path : IsPath path

pub record AsksWhyAt (words : List (List ℕ)) (path : List ℕ) : Type 0 where
  pub asks : AsksWhy words path
  pub is_path : IsPath path

-- own: copies are asked for by a path other than the root's
pub record CopiesTo (path : List ℕ) (asked : Asked) : Type 0 where
  pub is : asked ≡ vendoring path
  pub is_path : IsPagePath path

pub record VendorsAt (words : List (List ℕ)) (path : List ℕ) : Type 0 where
  pub asks : VendorsTo words path
  pub is_path : IsPagePath path

abbrev pub IsWantedOf : Wanted → Asked → Type 0
IsWantedOf (wanted.Order order) asked = IsOrderOf order asked
IsWantedOf (wanted.Why path) asked = ExplainsAt path asked
IsWantedOf (wanted.Vendor path) asked = CopiesTo path asked
IsWantedOf (wanted.Measure number) asked = asked ≡ measuring number
IsWantedOf wanted.Session asked = asked ≡ editing

abbrev pub IsWanted : List (List ℕ) → Wanted → Type 0
IsWanted words (wanted.Order order) = IsOrder words order
IsWanted words (wanted.Why path) = AsksWhyAt words path
IsWanted words (wanted.Vendor path) = VendorsAt words path
IsWanted words (wanted.Measure number) = Measures words number
IsWanted words wanted.Session = IsSession words
