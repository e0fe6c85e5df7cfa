-- What words and a tree give a run: one config, or one refusal.
use Rattle.std.proofs.Common.{◌≡◌, ◌⊎◌, ℕ, List, Result, Ok, Err, inl, inr}
use Rattle.tree_spec.specs.Paths.{IsPath}
use Rattle.tree_spec.specs.Trees.{Tree}
use Rattle.trace_spec.specs.Modules.{Config}
use Rattle.config_spec.specs.declared.Command.{Command}
use Rattle.config_spec.specs.declared.ConfigFault.{ConfigFault}
use Rattle.words_spec.specs.PlainWords.{editing, explaining, measuring, vendoring}
use Rattle.config_spec.specs.Words.{IsCommandOf, IsPlain, IsSession, Measures, RefusesWords}
use Rattle.config_spec.specs.Words.RefusesWords.{bad_option, bad_file, bad_folder}
use Rattle.config_spec.specs.Projects.{Configures, IsConfigOf, IsConfigFor, RefusesConfig}
use Rattle.config_spec.proofs.Configs.{configs_are_judged}
use Rattle.config_spec.proofs.ConfigsFit.{as_outcome, configs_are_projects}
use Rattle.config_spec.proofs.WordsJudged.{words_are_judged}

pub record SameConfig (some other : Command) (config second : Config) : Type 0 where
  pub one_command : some ≡ other
  pub one_config : config ≡ second

abbrev as_refused : ConfigFault → Result Config ConfigFault
as_refused fault = Err fault

-- ---- words

pub command_is : (words : List (List ℕ)) (tree : Tree) (command : Command) (outcome : Result Config ConfigFault) → Configures words tree command outcome → IsCommandOf words command
command_is words tree command outcome is = record { asked = is.asked; asks = is.asks; is = is.is; settings = is.settings; sets = is.sets }

-- words that can have a config ask for its command
pub command_for : (words : List (List ℕ)) (command : Command) (config : Config) → IsConfigFor words command config → IsCommandOf words command
command_for words command config is = record { asked = is.asked; asks = is.asks; is = is.is; settings = is.settings; sets = is.sets }

pub command_is_plain : (words : List (List ℕ)) (command : Command) → IsCommandOf words command → IsPlain words
command_is_plain words command is = record { asked = is.asked; asks = is.asks }

pub refused_is_plain : (words : List (List ℕ)) (fault : ConfigFault) → RefusesWords words fault → IsPlain words
refused_is_plain words fault (bad_option asked command why asks is refuses) = record { asked = asked; asks = asks }
refused_is_plain words fault (bad_file path asks none) = record { asked = explaining path; asks = asks }
refused_is_plain words fault (bad_folder path asks none) = record { asked = vendoring path; asks = asks }

pub measured_is_plain : (words : List (List ℕ)) (number : ℕ) → Measures words number → IsPlain words
measured_is_plain words number asks = record { asked = measuring number; asks = asks }

module _ (words : List (List ℕ)) where
  pub refused_or_command : (fault : ConfigFault) (command : Command) → RefusesWords words fault → IsCommandOf words command → ⊥
  refused_or_command fault command refuses is = (words_are_judged words).not_both command fault is refuses

-- ---- configs

module _ (words : List (List ℕ)) (tree : Tree) where
  pub one_config : (some other : Command) (config second : Config) → IsConfigOf words tree some config → IsConfigOf words tree other second → SameConfig some other config second
  one_config some other config second a b =
      let same = (configs_are_judged words tree).one some other (Ok config) (Ok second) a b in
      let outcomes : as_outcome config ≡ as_outcome second = same.one_outcome in
      record { one_command = same.one_command; one_config = cc }

  pub one_config_fault : (some other : ConfigFault) → RefusesConfig words tree some → RefusesConfig words tree other → some ≡ other
  one_config_fault some other a b =
      let same = (configs_are_judged words tree).one a.command b.command (Err some) (Err other) a.configures b.configures in
      let outcomes : as_refused some ≡ as_refused other = same.one_outcome in
      cc

  pub refused_or_config : (fault : ConfigFault) (command : Command) (config : Config) → RefusesConfig words tree fault → IsConfigOf words tree command config → ⊥
  refused_or_config fault command config a b =
      let same = (configs_are_judged words tree).one a.command command (Err fault) (Ok config) a.configures b in
      let outcomes : as_refused fault ≡ as_outcome config = same.one_outcome in
      absurd (cc)

  pub words_refused_or_config : (fault : ConfigFault) (command : Command) (config : Config) → RefusesWords words fault → IsConfigOf words tree command config → ⊥
  words_refused_or_config fault command config refuses is = refused_or_command words fault command refuses (command_is words tree command (Ok config) is)

  pub words_refused_or_refused : (some other : ConfigFault) → RefusesWords words some → RefusesConfig words tree other → ⊥
  words_refused_or_refused some other refuses is = refused_or_command words some is.command refuses (command_is words tree is.command (Err other) is.configures)

  pub config_for : (command : Command) (config : Config) → IsConfigOf words tree command config → IsConfigFor words command config
  config_for command config is = configs_are_projects words tree command config is

  pub page_is_path : (command : Command) (config : Config) → IsConfigOf words tree command config → IsPath config.page
  page_is_path command config is = (config_for command config is).is_project.page.is_path

-- what words and a tree come to before the tree's files are asked for
pub data Judged (words : List (List ℕ)) (tree : Tree) : Type 0 where
  not_plain : (IsPlain words → ⊥) → Judged words tree
  words_refused : (fault : ConfigFault) → RefusesWords words fault → Judged words tree
  config_refused : (fault : ConfigFault) → RefusesConfig words tree fault → Judged words tree
  configured : (command : Command) (config : Config) → IsConfigOf words tree command config → Judged words tree
  measured : (number : ℕ) → Measures words number → Judged words tree
  session : IsSession words → Judged words tree

by_outcome : (words : List (List ℕ)) (tree : Tree) (command : Command) (outcome : Result Config ConfigFault) → Configures words tree command outcome → Judged words tree
by_outcome words tree command (Ok config) is = configured command config is
by_outcome words tree command (Err fault) is = config_refused fault (record { command = command; configures = is })

pub judged : (words : List (List ℕ)) (tree : Tree) → Judged words tree
judged words tree =
    elim ((words_are_judged words).some) [
      | inl other ↦ not_plain other
      | inr plain ↦ elim plain [
        | inl command ↦ let found = (configs_are_judged words tree).some command.0 command.1 in by_outcome words tree command.0 found.0 found.1
        | inr more ↦ elim more [
          | inl refused ↦ words_refused refused.0 refused.1
          | inr last ↦ elim last [
            | inl number ↦ measured number.0 number.1
            | inr asks ↦ session asks
          ]
        ]
      ]
    ]

pub plain_or_not : (words : List (List ℕ)) → IsPlain words ⊎ (IsPlain words → ⊥)
plain_or_not words =
    elim ((words_are_judged words).some) [
      | inl none ↦ inr none
      | inr plain ↦ elim plain [
        | inl command ↦ inl (command_is_plain words command.0 command.1)
        | inr more ↦ elim more [
          | inl refused ↦ inl (refused_is_plain words refused.0 refused.1)
          | inr last ↦ elim last [
            | inl number ↦ inl (measured_is_plain words number.0 number.1)
            | inr asks ↦ inl (record { asked = editing; asks = asks })
          ]
        ]
      ]
    ]
