-- The plain words of a command line: those that have a meaning. Words are those after the program's name, each as its
-- bytes. All of it is this project's own.
--     Asks words asked                   the words are plain, and ask for this
--     LinkWords options words asked      after `link` and these options, the words ask for this
--     IsValue text                       the text can be an entry, or the value of an option
--     Asked                              what words ask for: a command with its values
--     LinkOptions, no_options            the values of the options of `link`, where they are given
--     spelled option, value_of option options, with_value option value options      one option
--     most_packages                      the largest number that can stand behind `measure`
use Rattle.std.specs.Fmt.{decimal}
use Rattle.std.specs.Prelude.{◌≡◌, ◌≢◌, ◌≤◌, ℕ, List, [], ◌∷◌, ◌++◌, codes, All, Option, Some, None}
use Rattle.words_spec.specs.declared.LinkOption.{LinkOption}
use Rattle.words_spec.specs.declared.LinkOption.TheVariants.{Base, Page, Conditions}

-- own: it isn't empty and doesn't begin with `-`
pub record IsValue (text : List ℕ) : Type 0 where
  pub nonempty : text ≢ []
  pub no_hyphen : (rest : List ℕ) → text ≢ 45 ∷ rest

pub record LinkOptions : Type 0 where
  pub base : Option (List ℕ)
  pub page : Option (List ℕ)
  pub conditions : Option (List ℕ)

abbrev pub no_options : LinkOptions
no_options = record { base = None; page = None; conditions = None }

abbrev pub spelled : LinkOption → List ℕ
spelled Base = codes "--base"
spelled Page = codes "--page"
spelled Conditions = codes "--conditions"

abbrev pub value_of : LinkOption → LinkOptions → Option (List ℕ)
value_of Base options = options.base
value_of Page options = options.page
value_of Conditions options = options.conditions

abbrev pub with_value : LinkOption → List ℕ → LinkOptions → LinkOptions
with_value Base value options = record options { base = Some value }
with_value Page value options = record options { page = Some value }
with_value Conditions value options = record options { conditions = Some value }

-- own: a command with its values: options and entries of `link`, entries of `unlink`, the path of `why` and of
-- `vendor`, the number of `measure`
pub data Asked : Type 0 where
  linking : LinkOptions → List (List ℕ) → Asked
  unlinking : List (List ℕ) → Asked
  refreshing : Asked
  checking : Asked
  checking_strictly : Asked
  listing : Asked
  injecting : Asked
  editing : Asked
  explaining : List ℕ → Asked
  vendoring : List ℕ → Asked
  measuring : ℕ → Asked

-- own: options first, each at most once, its value as a word of its own or behind `=`; then any number of entries
pub data LinkWords : LinkOptions → List (List ℕ) → Asked → Type 0 where
  entries :
      {options : LinkOptions} {words : List (List ℕ)} → All IsValue words
      → LinkWords options words (linking options words)
  two_words :
      {options : LinkOptions} (option : LinkOption) (value : List ℕ) (rest : List (List ℕ)) {asked : Asked}
      → IsValue value → value_of option options ≡ None → LinkWords (with_value option value options) rest asked
      → LinkWords options (spelled option ∷ value ∷ rest) asked
  one_word :
      {options : LinkOptions} (option : LinkOption) (value : List ℕ) (rest : List (List ℕ)) {asked : Asked}
      → IsValue value → value_of option options ≡ None → LinkWords (with_value option value options) rest asked
      → LinkWords options ((spelled option ++ 61 ∷ value) ∷ rest) asked

-- own: the largest number that `measure` takes
abbrev pub most_packages : ℕ
most_packages = 2000

-- own: a command's name, and behind it what it takes; a number is decimal, from 1 on, without leading zeros
pub data Asks : List (List ℕ) → Asked → Type 0 where
  link :
      {words : List (List ℕ)} {asked : Asked} → LinkWords no_options words asked → Asks (codes "link" ∷ words) asked
  unlink :
      (entry : List ℕ) (entries : List (List ℕ)) → All IsValue (entry ∷ entries)
      → Asks (codes "unlink" ∷ entry ∷ entries) (unlinking (entry ∷ entries))
  refresh : Asks (codes "refresh" ∷ []) refreshing
  check : Asks (codes "check" ∷ []) checking
  check_strictly : Asks (codes "check" ∷ codes "--strict" ∷ []) checking_strictly
  list : Asks (codes "list" ∷ []) listing
  inject : Asks (codes "inject" ∷ []) injecting
  session : Asks (codes "session" ∷ []) editing
  why : (path : List ℕ) → IsValue path → Asks (codes "why" ∷ path ∷ []) (explaining path)
  vendor : (path : List ℕ) → IsValue path → Asks (codes "vendor" ∷ path ∷ []) (vendoring path)
  measure :
      (number : ℕ) → 1 ≤ number → number ≤ most_packages
      → Asks (codes "measure" ∷ decimal number ∷ []) (measuring number)
