-- How a command comes to its config, step by step.
use Rattle.std.proofs.Common.{◌≡◌, ◌≤◌, ℕ, true, false, List, [], ◌∷◌, length, Option, Some, None, Ok, Err, IfSome, Result, refl, sym, ap, ◌∙◌, subst, inl, arith}
use Rattle.std.specs.FinMap.{get}
use Rattle.std.proofs.lemmas.List.{append-nil}
use Rattle.tree_spec.specs.declared.Look.{Look}
use Rattle.tree_spec.specs.declared.Look.TheVariants as look
use Rattle.tree_spec.specs.declared.LookFault.TheVariants as look_fault
use Rattle.tree_spec.specs.declared.LimitName.TheVariants.{Entries, File}
use Rattle.tree_spec.specs.Limits.{limit_number}
use Rattle.tree_spec.specs.States.{FolderState, IsLooked, OnlyLooks}
use Rattle.tree_spec.proofs.ToldStates.{if_some}
use Rattle.project_spec.proofs.ReadBack.{read_projects}
use Rattle.project_spec.specs.ProjectFiles as project
use Rattle.project_spec.specs.ProjectFiles.{IsProject, ReadsProject}
use Rattle.trace_spec.specs.Modules.{Config}
use Rattle.config_spec.proofs.ConfigsFit.{config_for}
use Rattle.config_spec.proofs.FaultsOfWords.{fault_for, read_fault_is}
use Rattle.config_spec.specs.declared.Command.{Command}
use Rattle.config_spec.specs.declared.ConfigFault.{ConfigFault}
use Rattle.config_spec.specs.declared.ConfigFault.TheVariants.{Project}
use Rattle.config_spec.specs.declared.ProjectFault.{ProjectFault}
use Rattle.config_spec.specs.declared.ProjectFault.TheVariants.{TooLarge}
use Rattle.config_spec.specs.Projects.{project_path, read_fault, read_outcome, config_in, HoldsProject, HoldsProject as holds, IsReadFault, IsReadFault as read_faults}
use Rattle.command_words.specs.declared.order.Order.{Order}
use Rattle.command_words.specs.Orders.{IsOrder, command_ordered, settings_ordered}
use Rattle.generator_spec.specs.declared.Refusal.TheVariants.{Config as Configured}
use Rattle.generation.specs.declared.stop.Stop.{Stop}
use Rattle.generation.specs.declared.stop.Stop.TheVariants.{Refused, ReadFault, Memory}
use Rattle.generator_spec.specs.Asked.{AsksOwn}
use Rattle.generator_core.specs.Configuring.{CanBeHeld, StopsProject, StopsProject as stops_project, FindsProject, StopsConfig, StopsConfig as stops_config, FindsConfig}
use Rattle.generator_core.proofs.Preparings.{own_asked}

-- ---- what is held

can_hold_none : CanBeHeld (Ok None)
can_hold_none = record { is_project = λ old e. absurd (cc); few = λ old e. absurd (cc); faults = λ fault e. absurd (cc) }

can_be_too_large : CanBeHeld (Err TooLarge)
can_be_too_large = record { is_project = λ old e. absurd (cc); few = λ old e. absurd (cc); faults = λ fault e. subst IsReadFault (cc) read_faults.too_large }

can_read : (bytes : List ℕ) (outcome : Result Config project.Fault) → ReadsProject bytes outcome → CanBeHeld (read_outcome outcome)
can_read bytes (Ok config) read =
    let given = read_projects bytes config read in
    record {
      is_project = λ old e. let same : config ≡ old = cc in subst IsProject same given.0;
      few = λ old e. let same : config ≡ old = cc in subst (λ c. length c.entries ≤ limit_number Entries) same given.1;
      faults = λ fault e. absurd (cc);
    }
can_read bytes (Err why) read = record { is_project = λ old e. absurd (cc); few = λ old e. absurd (cc); faults = λ fault e. read_fault_is bytes (Err why) fault read e }

-- ---- the look at the project's file

module _ (path : List ℕ) (is_path : path ≡ project_path) (before after : FolderState) where
  abbrev IsSeen : Look → Type 0
  IsSeen found = IsLooked before path (limit_number File) (Ok found) after

  seen : (found : Look) → IsSeen found → OnlyLooks before after ⊥
  seen found is = record { tree = is.tree; writes = is.writes; later = is.later; cause = λ e. absurd e; quiet = λ e. is.quiet (λ same. cc) }

  found_as : (found : Look) (held : Option Config) → IsSeen found → IfSome before.holds (λ tree. HoldsProject tree (Ok held)) → CanBeHeld (Ok held) → FindsProject before (Ok held) after
  found_as found held is told can = record { found = record { told = told; can = can; looks = seen found is }; asked = own_asked project_path path true before.asked after is_path is.asked; stopped = tt }

  refused_as : (found : Look) (fault : ProjectFault) → IsSeen found → IfSome before.holds (λ tree. HoldsProject tree (Err fault)) → CanBeHeld (Err fault) → FindsProject before (Err (Refused (Configured (Project fault)))) after
  refused_as found fault is told can = record { found = tt; asked = own_asked project_path path true before.asked after is_path is.asked; stopped = stops_project.bad_project fault refl (record { told = told; can = can; looks = seen found is }) }

  pub project_absent : IsSeen look.Absent → FindsProject before (Ok None) after
  project_absent is = found_as look.Absent None is (if_some before.holds (λ tree e. holds.absent (ap (get tree) (sym is_path) ∙ e)) is.entry) can_hold_none

  pub project_folder : IsSeen look.Folder → FindsProject before (Ok None) after
  project_folder is = found_as look.Folder None is (if_some before.holds (λ tree e. holds.folder (ap (get tree) (sym is_path) ∙ e)) is.entry) can_hold_none

  pub project_too_large : IsSeen look.TooLarge → FindsProject before (Err (Refused (Configured (Project TooLarge)))) after
  project_too_large is = refused_as look.TooLarge TooLarge is (if_some before.holds (λ tree e. holds.too_large e.0 (ap (get tree) (sym is_path) ∙ e.1) e.2) is.entry) can_be_too_large

  pub project_read : (bytes : List ℕ) (config : Config) → IsSeen (look.File bytes) → ReadsProject bytes (Ok config) → FindsProject before (Ok (Some config)) after
  project_read bytes config is read =
      found_as (look.File bytes) (Some config) is (if_some before.holds (λ tree e. holds.reads bytes (Ok config) (ap (get tree) (sym is_path) ∙ e.0) e.1 read) is.entry) (can_read bytes (Ok config) read)

  pub project_refused : (bytes : List ℕ) (why : project.Fault) → IsSeen (look.File bytes) → ReadsProject bytes (Err why) → FindsProject before (Err (Refused (Configured (Project (read_fault why))))) after
  project_refused bytes why is read =
      refused_as (look.File bytes) (read_fault why) is (if_some before.holds (λ tree e. holds.reads bytes (Err why) (ap (get tree) (sym is_path) ∙ e.0) e.1 read) is.entry) (can_read bytes (Err why) read)

  pub project_lacks : (found : Look) → IsSeen found → FindsProject before (Err Memory) after
  project_lacks found is = record { found = tt; asked = own_asked project_path path true before.asked after is_path is.asked; stopped = stops_project.memory refl (seen found is) }

  pub project_fault : IsLooked before path (limit_number File) (Err look_fault.Failed) after → FindsProject before (Err ReadFault) after
  project_fault is = record {
    found = tt;
    asked = own_asked project_path path false before.asked after is_path is.asked;
    stopped = stops_project.read_fault refl (record { tree = is.tree; writes = is.writes; later = is.later; cause = λ e. is.failed refl; quiet = λ none. absurd (none refl) });
  }

  pub project_memory : IsLooked before path (limit_number File) (Err look_fault.Memory) after → FindsProject before (Err Memory) after
  project_memory is = record {
    found = tt;
    asked = own_asked project_path path false before.asked after is_path is.asked;
    stopped = stops_project.memory refl (record { tree = is.tree; writes = is.writes; later = is.later; cause = λ e. absurd e; quiet = λ none. is.quiet (λ same. cc) });
  }

-- before anything was looked at
pub project_unasked : (state : FolderState) → FindsProject state (Err Memory) state
project_unasked state = record {
  found = tt;
  asked = by state.asked refl;
  stopped = stops_project.memory refl (record { tree = refl; writes = refl; later = omega arith; cause = λ e. absurd e; quiet = λ none. refl });
}
  where
    by : (told : Option (List (List ℕ))) → state.asked ≡ told → IfSome told (λ old. AsksOwn (project_path ∷ []) old state)
    by None e = tt
    by (Some old) e = record { first = []; is_own = inl refl; asked = e ∙ ap Some (sym (append-nil old)) }

-- ---- the config

module _ (words : List (List ℕ)) (order : Order) (is : IsOrder words order) (before after : FolderState) where
  abbrev command : Command
  command = command_ordered order

  stops_by : (stop : Stop) → StopsProject before after stop → StopsConfig words before after stop
  stops_by stop (stops_project.bad_project fault same read) =
      stops_config.refused (Project fault) same
      (if_some before.holds (λ tree held. record {
        command = command;
        configures = record { asked = is.asked; asks = is.asks; is = is.is_order.is; settings = settings_ordered order; sets = is.is_order.sets; found = Err fault; holds = held; comes = refl };
      }) read.told)
      (fault_for words command (Project fault) is.asked (settings_ordered order) (Err fault) is.asks is.is_order.is is.is_order.sets read.can.faults refl) read.looks
  stops_by stop (stops_project.read_fault same looks) = stops_config.read_fault same looks
  stops_by stop (stops_project.memory same looks) = stops_config.memory same looks

  pub project_stops : (stop : Stop) → FindsProject before (Err stop) after → FindsConfig words command before (Err stop) after
  project_stops stop at = record { found = tt; asked = at.asked; stopped = stops_by stop at.stopped }

  module _ (found : Option Config) (at : FindsProject before (Ok found) after) where
    pub config_found : (config : Config) → config_in is.asked (settings_ordered order) found ≡ Ok config → FindsConfig words command before (Ok config) after
    config_found config comes = record {
      found = record {
        is = record {
          told = if_some before.holds (λ tree held. record { asked = is.asked; asks = is.asks; is = is.is_order.is; settings = settings_ordered order; sets = is.is_order.sets; found = Ok found; holds = held; comes = sym comes }) at.found.told;
          can = config_for words command config is.asked (settings_ordered order) (Ok found) is.asks is.is_order.is is.is_order.sets (λ old e. record { is_project = at.found.can.is_project old e; few = at.found.can.few old e }) (sym comes);
        };
        looks = at.found.looks;
      };
      asked = at.asked;
      stopped = tt;
    }

    pub config_refused : (fault : ConfigFault) (stop : Stop) → stop ≡ Refused (Configured fault) → config_in is.asked (settings_ordered order) found ≡ Err fault → FindsConfig words command before (Err stop) after
    config_refused fault stop same comes = record {
      found = tt;
      asked = at.asked;
      stopped = stops_config.refused fault same
          (if_some before.holds (λ tree held. record {
            command = command;
            configures = record { asked = is.asked; asks = is.asks; is = is.is_order.is; settings = settings_ordered order; sets = is.is_order.sets; found = Ok found; holds = held; comes = sym comes };
          }) at.found.told)
          (fault_for words command fault is.asked (settings_ordered order) (Ok found) is.asks is.is_order.is is.is_order.sets at.found.can.faults (sym comes)) at.found.looks;
    }

    pub config_lacks : (stop : Stop) → stop ≡ Memory → FindsConfig words command before (Err stop) after
    config_lacks stop same = record { found = tt; asked = at.asked; stopped = stops_config.memory same at.found.looks }
