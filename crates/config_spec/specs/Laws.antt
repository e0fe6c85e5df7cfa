-- The laws of words, projects and configs. Each is the contract of a function of this crate.
use Rattle.std.specs.Prelude.{◌≡◌, ◌⊎◌, List, ℕ, Option, Result, Err}
use Rattle.tree_spec.specs.Trees.{Tree}
use Rattle.trace_spec.specs.Modules.{Config}
use Rattle.words_spec.specs.PlainWords.{LinkOptions}
use Rattle.config_spec.specs.declared.Command.{Command}
use Rattle.config_spec.specs.declared.ConfigFault.{ConfigFault}
use Rattle.config_spec.specs.declared.ProjectFault.{ProjectFault}
use Rattle.config_spec.specs.Words.{Settings, Sets, RefusesOptions, IsPlain, IsCommandOf, Measures, IsSession, RefusesWords}
use Rattle.config_spec.specs.Projects.{HoldsProject, Configures, IsConfigOf, IsConfigFor, CanRefuseConfig}

-- ---- words

-- own: options set one thing or are refused in one way, and never both
pub record OptionsDecide (options : LinkOptions) : Type 0 where
  pub one_settings : (some other : Settings) → Sets options some → Sets options other → some ≡ other
  pub one_fault : (some other : ConfigFault) → RefusesOptions options some → RefusesOptions options other → some ≡ other
  pub not_both : (settings : Settings) (fault : ConfigFault) → Sets options settings → RefusesOptions options fault → ⊥
  pub some : ((settings : Settings) × Sets options settings) ⊎ ((fault : ConfigFault) × RefusesOptions options fault)

-- own law: whatever the options are, they set one thing or are refused in one way, and never both
abbrev pub OptionsAreJudged : Type 0
OptionsAreJudged = (options : LinkOptions) → OptionsDecide options

-- own: words have one command, one fault or one number of packages at most, or ask for a session, and never two of these;
-- plain words have one of them, and others none
pub record WordsDecide (words : List (List ℕ)) : Type 0 where
  pub one_command : (some other : Command) → IsCommandOf words some → IsCommandOf words other → some ≡ other
  pub one_fault : (some other : ConfigFault) → RefusesWords words some → RefusesWords words other → some ≡ other
  pub not_both : (command : Command) (fault : ConfigFault) → IsCommandOf words command → RefusesWords words fault → ⊥
  pub one_measure : (some other : ℕ) → Measures words some → Measures words other → some ≡ other
  pub no_command : (number : ℕ) (command : Command) → Measures words number → IsCommandOf words command → ⊥
  pub no_fault : (number : ℕ) (fault : ConfigFault) → Measures words number → RefusesWords words fault → ⊥
  pub session_or_command : (command : Command) → IsSession words → IsCommandOf words command → ⊥
  pub session_or_fault : (fault : ConfigFault) → IsSession words → RefusesWords words fault → ⊥
  pub session_or_measure : (number : ℕ) → IsSession words → Measures words number → ⊥
  pub some :
      (IsPlain words → ⊥)
      ⊎ (((command : Command) × IsCommandOf words command)
      ⊎ (((fault : ConfigFault) × RefusesWords words fault)
      ⊎ (((number : ℕ) × Measures words number) ⊎ IsSession words)))

-- own law: whatever the words are, they have no meaning, or one command, or one fault, or one number of packages, or ask
-- for a session
abbrev pub WordsAreJudged : Type 0
WordsAreJudged = (words : List (List ℕ)) → WordsDecide words

-- ---- projects

-- own: what stands at the project's path holds one thing
pub record ProjectDecides (tree : Tree) : Type 0 where
  pub one :
      (some other : Result (Option Config) ProjectFault) → HoldsProject tree some → HoldsProject tree other
      → some ≡ other
  pub some : (found : Result (Option Config) ProjectFault) × HoldsProject tree found

-- own law: in each tree, what stands at the project's path holds one thing: a config, nothing, or a fault
abbrev pub ProjectsAreRead : Type 0
ProjectsAreRead = (tree : Tree) → ProjectDecides tree

-- ---- configs

-- own: the two commands are one, and so are the two outcomes
pub record SameConfiguring (some other : Command) (outcome second : Result Config ConfigFault) : Type 0 where
  pub one_command : some ≡ other
  pub one_outcome : outcome ≡ second

-- own: words and a tree have one config or one fault for one command, and where the words ask for a command they
-- have one
pub record ConfigDecides (words : List (List ℕ)) (tree : Tree) : Type 0 where
  pub one :
      (some other : Command) (outcome second : Result Config ConfigFault) → Configures words tree some outcome
      → Configures words tree other second → SameConfiguring some other outcome second
  pub some :
      (command : Command) → IsCommandOf words command
      → (outcome : Result Config ConfigFault) × Configures words tree command outcome

-- own law: of words and a tree comes at most one command with one config or fault, and one with each command that the
-- words ask for
abbrev pub ConfigsAreJudged : Type 0
ConfigsAreJudged = (words : List (List ℕ)) (tree : Tree) → ConfigDecides words tree

-- own law: the config is one that a project's file can hold, with the values of the options
abbrev pub ConfigsAreProjects : Type 0
ConfigsAreProjects =
    (words : List (List ℕ)) (tree : Tree) (command : Command) (config : Config) → IsConfigOf words tree command config
    → IsConfigFor words command config

-- own law: whatever the tree, these faults and no others
abbrev pub FaultsAreOfWords : Type 0
FaultsAreOfWords =
    (words : List (List ℕ)) (tree : Tree) (command : Command) (fault : ConfigFault)
    → Configures words tree command (Err fault) → CanRefuseConfig words fault
