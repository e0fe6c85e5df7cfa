-- Words that take the project as it stands have the config of `refresh`.
use Rattle.std.proofs.Common.{◌≡◌, ℕ, List, Option, Some, Result, Ok, Err, refl, ap, ◌∙◌, subst}
use Rattle.tree_spec.proofs.ToldStates.{if_some}
use Rattle.tree_spec.specs.Paths.{IsPath}
use Rattle.tree_spec.specs.States.{FolderState}
use Rattle.tree_spec.specs.Trees.{Tree}
use Rattle.trace_spec.specs.Modules.{Config}
use Rattle.words_spec.proofs.PlainIsRead.{one_asked}
use Rattle.words_spec.proofs.ReadIsPlain.{read_is_plain}
use Rattle.words_spec.specs.PlainWords.{Asked, Asks, LinkOptions, explaining, linking, refreshing, vendoring}
use Rattle.project_spec.specs.ProjectFiles.{IsPagePath}
use Rattle.config_spec.proofs.Options.{no_settings_set}
use Rattle.config_spec.proofs.WordsJudged.{explained_path, vendored_path}
use Rattle.config_spec.specs.declared.Command.{Command}
use Rattle.config_spec.specs.declared.Command.TheVariants.{Refresh, Vendor, Why}
use Rattle.config_spec.specs.declared.ConfigFault.{ConfigFault}
use Rattle.config_spec.specs.declared.ProjectFault.{ProjectFault}
use Rattle.config_spec.specs.Projects.{config_by, CanRefuseConfig, Configures, HasEntriesOf, IsConfigFor}
use Rattle.config_spec.specs.Projects.{RefusesAsked, RefusesConfig}
use Rattle.config_spec.specs.Projects.RefusesAsked.{bad_project, no_project, no_base, too_many_entries, not_linked}
use Rattle.config_spec.specs.Words.{command_of, IsCommandOf, no_settings, options_of, Sets, Settings}
use Rattle.session_spec.specs.Openings.{refresh_words}
use Rattle.generation.specs.declared.stop.Stop.{Stop}
use Rattle.generator_spec.specs.Asked.{IsConfigAt}
use Rattle.generator_core.specs.Configuring.{FindsConfig, StopsConfig, StopsConfig as stops_config}

-- without options and entries of its own
pub record TakesProject (asked : Asked) (command : Command) : Type 0 where
  pub is : command_of asked ≡ Some command
  pub sets : Sets (options_of asked) no_settings
  pub as_it_stands :
      (settings : Settings) (held : Result (Option Config) ProjectFault)
      → config_by refreshing settings held ≡ config_by asked no_settings held
  pub entries : (config : Config) → HasEntriesOf asked config.entries
  pub no_link : (options : LinkOptions) (entries : List (List ℕ)) → asked ≡ linking options entries → ⊥

pub why_takes : (path : List ℕ) → IsPath path → TakesProject (explaining path) Why
why_takes path is_path = record {
  is = explained_path path is_path;
  sets = no_settings_set;
  as_it_stands = same;
  entries = λ config. tt;
  no_link = λ options entries e. absurd (cc);
}
  where
    same : (settings : Settings) (held : Result (Option Config) ProjectFault) → config_by refreshing settings held ≡ config_by (explaining path) no_settings held
    same settings (Err fault) = refl
    same settings (Ok held) = refl

pub vendor_takes : (path : List ℕ) → IsPagePath path → TakesProject (vendoring path) Vendor
vendor_takes path is_path = record {
  is = vendored_path path is_path;
  sets = no_settings_set;
  as_it_stands = same;
  entries = λ config. tt;
  no_link = λ options entries e. absurd (cc);
}
  where
    same : (settings : Settings) (held : Result (Option Config) ProjectFault) → config_by refreshing settings held ≡ config_by (vendoring path) no_settings held
    same settings (Err fault) = refl
    same settings (Ok held) = refl

-- `refresh` asks for no other command
same_refresh : {tree : Tree} {fault : ConfigFault} (command : Command) → Configures refresh_words tree command (Err fault) → Configures refresh_words tree Refresh (Err fault)
same_refresh command found =
    let asked = one_asked refresh_words found.asked refreshing found.asks (read_is_plain refresh_words refreshing refl) in
    record {
      asked = refreshing;
      asks = read_is_plain refresh_words refreshing refl;
      is = refl;
      settings = found.settings;
      sets = subst (λ a. Sets (options_of a) found.settings) asked found.sets;
      found = found.found;
      holds = found.holds;
      comes = found.comes ∙ ap (λ a. config_by a found.settings found.found) asked;
    }

module _ (words : List (List ℕ)) (asked : Asked) (command : Command) (asks : Asks words asked) (takes : TakesProject asked command) where
  pub asks_command : IsCommandOf words command
  asks_command = record { asked = asked; asks = asks; is = takes.is; settings = no_settings; sets = takes.sets }

  refreshed : {tree : Tree} {outcome : Result Config ConfigFault} → Configures refresh_words tree Refresh outcome → Configures words tree command outcome
  refreshed {tree} {outcome} found =
      let same = one_asked refresh_words found.asked refreshing found.asks (read_is_plain refresh_words refreshing refl) in
      record {
        asked = asked;
        asks = asks;
        is = takes.is;
        settings = no_settings;
        sets = takes.sets;
        found = found.found;
        holds = found.holds;
        comes = found.comes ∙ (ap (λ a. config_by a found.settings found.found) same ∙ takes.as_it_stands found.settings found.found);
      }

  refreshed_for : (config : Config) → IsConfigFor refresh_words Refresh config → IsConfigFor words command config
  refreshed_for config found = record {
    asked = asked;
    asks = asks;
    is = takes.is;
    settings = no_settings;
    sets = takes.sets;
    kept = refl;
    is_project = found.is_project;
    entries = takes.entries config;
    few = found.few;
  }

  refreshed_refuses : (other : Asked) (fault : ConfigFault) → other ≡ refreshing → RefusesAsked other fault → RefusesAsked asked fault
  refreshed_refuses other fault same (bad_project _ why read) = bad_project asked why read
  refreshed_refuses other fault same (no_project _ none) = no_project asked takes.no_link
  refreshed_refuses other fault same (no_base options entries none) = absurd (cc)
  refreshed_refuses other fault same (too_many_entries options entries) = absurd (cc)
  refreshed_refuses other fault same (not_linked entries front entry rest parts distinct) = absurd (cc)

  refreshed_can : (fault : ConfigFault) → CanRefuseConfig refresh_words fault → CanRefuseConfig words fault
  refreshed_can fault can =
      let same = one_asked refresh_words can.asked refreshing can.asks (read_is_plain refresh_words refreshing refl) in
      record {
        command = command;
        asked = asked;
        asks = asks;
        is = takes.is;
        settings = no_settings;
        sets = takes.sets;
        refuses = refreshed_refuses can.asked fault same can.refuses;
      }

  refreshed_fault : (tree : Tree) (fault : ConfigFault) → RefusesConfig refresh_words tree fault → RefusesConfig words tree fault
  refreshed_fault tree fault because = record { command = command; configures = refreshed (same_refresh because.command because.configures) }

  module _ (before after : FolderState) where
    stopped_too : (stop : Stop) → StopsConfig refresh_words before after stop → StopsConfig words before after stop
    stopped_too stop (stops_config.refused fault same refuses can looks) =
        stops_config.refused fault same (if_some before.holds (λ tree because. refreshed_fault tree fault because) refuses) (refreshed_can fault can) looks
    stopped_too stop (stops_config.read_fault same looks) = stops_config.read_fault same looks
    stopped_too stop (stops_config.memory same looks) = stops_config.memory same looks

    found_too : (config : Config) → IsConfigAt refresh_words Refresh config before → IsConfigAt words command config before
    found_too config found = record {
      told = if_some before.holds (λ tree of. refreshed of) found.told;
      can = refreshed_for config found.can;
    }

    pub takes_project : (config : Config) → FindsConfig refresh_words Refresh before (Ok config) after → FindsConfig words command before (Ok config) after
    takes_project config at = record {
      found = record { is = found_too config at.found.is; looks = at.found.looks };
      asked = at.asked;
      stopped = tt;
    }

    pub takes_no_project : (stop : Stop) → FindsConfig refresh_words Refresh before (Err stop) after → FindsConfig words command before (Err stop) after
    takes_no_project stop at = record { found = tt; asked = at.asked; stopped = stopped_too stop at.stopped }
