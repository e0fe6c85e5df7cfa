-- Why words give no order.
--     RefusesAs Refuses fault      the fault is a refusal that is right so, or want of memory
--     IsBadBase given fault, IsBadPath given fault, IsBadConditions given fault      the text of one option is refused
--     RefusesOrder asked fault     what is asked for is refused
--     Explains words fault         the fault is right of the words
use Rattle.std.specs.Prelude.{◌≡◌, ℕ, List, Option, Some, None, ⊤}
use Rattle.tree_spec.specs.Paths.{IsPath}
use Rattle.node_spec.specs.Conditions.{AreConditions, names_in}
use Rattle.url_spec.specs.Bases.{base_of}
use Rattle.config_spec.specs.declared.Command.{Command}
use Rattle.config_spec.specs.declared.ConfigFault.{ConfigFault}
use Rattle.config_spec.specs.declared.ConfigFault.TheVariants as config
use Rattle.project_spec.specs.ProjectFiles.{IsPagePath}
use Rattle.config_spec.specs.Words.{IsPlain, RefusesOptions, RefusesWords, command_of, options_of}
use Rattle.words_spec.specs.PlainWords.{Asked, explaining, vendoring}
use Rattle.command_words.specs.declared.fault.WordsFault.{WordsFault}
use Rattle.command_words.specs.declared.fault.WordsFault.TheVariants.{Told, NotPlain, Refused, Memory}

-- own: want of memory can come with any words
abbrev pub RefusesAs : (ConfigFault → Type 0) → WordsFault → Type 0
RefusesAs Refuses (Told text) = ⊥
RefusesAs Refuses NotPlain = ⊥
RefusesAs Refuses (Refused fault) = Refuses fault
RefusesAs Refuses Memory = ⊤

pub record IsBadBase (given : Option (List ℕ)) (fault : ConfigFault) : Type 0 where
  pub text : List ℕ
  pub is_given : given ≡ Some text
  pub bad : base_of text ≡ None
  pub is : fault ≡ config.BadBase text

pub record IsBadPath (given : Option (List ℕ)) (fault : ConfigFault) : Type 0 where
  pub text : List ℕ
  pub is_given : given ≡ Some text
  pub bad : IsPagePath text → ⊥
  pub is : fault ≡ config.BadPath text

pub record IsBadConditions (given : Option (List ℕ)) (fault : ConfigFault) : Type 0 where
  pub text : List ℕ
  pub is_given : given ≡ Some text
  pub bad : AreConditions (names_in text) → ⊥
  pub is : fault ≡ config.BadConditions text

-- own: an option whose text is refused, or a file that is asked for by what isn't a path, or a folder of copies by that
-- or by the root
pub data RefusesOrder (asked : Asked) : ConfigFault → Type 0 where
  bad_option :
      (command : Command) (fault : ConfigFault) → command_of asked ≡ Some command
      → RefusesOptions (options_of asked) fault → RefusesOrder asked fault
  bad_file :
      (path : List ℕ) → asked ≡ explaining path → (IsPath path → ⊥) → RefusesOrder asked (config.BadPath path)
  bad_folder :
      (path : List ℕ) → asked ≡ vendoring path → (IsPagePath path → ⊥) → RefusesOrder asked (config.BadPath path)

-- own: words that aren't plain are told of or not; plain words are refused, or memory is wanted
abbrev pub Explains : List (List ℕ) → WordsFault → Type 0
Explains words (Told text) = IsPlain words → ⊥
Explains words NotPlain = IsPlain words → ⊥
Explains words (Refused fault) = RefusesWords words fault
Explains words Memory = ⊤
