-- How a command comes to its config.
--     CanBeHeld outcome      what a file can give at the project's path
--     FindsProject before result after      the project's file is read, or it is told why not
--     StopsConfig words before after stop      why there is no config
--     FindsConfig words command before result after      the command has its config, or it is told why not
use Rattle.std.specs.Prelude.{◌≡◌, ◌≤◌, [], ◌∷◌, ℕ, List, length, Option, Some, Result, Ok, Err}
use Rattle.std.specs.Prelude.{IfOk, IfErr, IfSome}
use Rattle.tree_spec.specs.States.{FolderState, OnlyLooks}
use Rattle.tree_spec.specs.declared.LimitName.TheVariants.{Entries}
use Rattle.tree_spec.specs.Limits.{limit_number}
use Rattle.project_spec.specs.ProjectFiles.{IsProject}
use Rattle.trace_spec.specs.Modules.{Config}
use Rattle.config_spec.specs.declared.Command.{Command}
use Rattle.config_spec.specs.declared.ConfigFault.{ConfigFault}
use Rattle.config_spec.specs.declared.ConfigFault.TheVariants.{Project}
use Rattle.config_spec.specs.declared.ProjectFault.{ProjectFault}
use Rattle.config_spec.specs.Projects.{project_path, HoldsProject, IsReadFault}
use Rattle.config_spec.specs.Projects.{RefusesConfig, CanRefuseConfig}
use Rattle.generator_spec.specs.declared.Refusal.TheVariants.{Config as Configured}
use Rattle.generation.specs.declared.stop.Stop.{Stop}
use Rattle.generation.specs.declared.stop.Stop.TheVariants.{Refused, ReadFault, Memory}
use Rattle.generator_spec.specs.Asked.{AsksOwn, IsConfigAt}

-- a config can stand in a project's file, and a fault is one of reading
pub record CanBeHeld (outcome : Result (Option Config) ProjectFault) : Type 0 where
  pub is_project : (old : Config) → outcome ≡ Ok (Some old) → IsProject old
  pub few : (old : Config) → outcome ≡ Ok (Some old) → length old.entries ≤ limit_number Entries
  pub faults : (fault : ProjectFault) → outcome ≡ Err fault → IsReadFault fault

-- what was read, of a told tree and of any other
pub record IsRead (before after : FolderState) (outcome : Result (Option Config) ProjectFault) : Type 0 where
  pub told : IfSome before.holds (λ tree. HoldsProject tree outcome)
  pub can : CanBeHeld outcome
  pub looks : OnlyLooks before after ⊥

pub data StopsProject (before after : FolderState) (stop : Stop) : Type 0 where
  bad_project :
      (fault : ProjectFault) → stop ≡ Refused (Configured (Project fault)) → IsRead before after (Err fault)
      → StopsProject before after stop
  read_fault : stop ≡ ReadFault → OnlyLooks before after (stop ≡ ReadFault) → StopsProject before after stop
  memory : stop ≡ Memory → OnlyLooks before after ⊥ → StopsProject before after stop

pub record FindsProject (before : FolderState) (result : Result (Option Config) Stop)
    (after : FolderState) : Type 0 where
  pub found : IfOk result (λ found. IsRead before after (Ok found))
  pub asked : IfSome before.asked (λ old. AsksOwn (project_path ∷ []) old after)
  pub stopped : IfErr result (StopsProject before after)

-- ---- the config

pub data StopsConfig (words : List (List ℕ)) (before after : FolderState) (stop : Stop) : Type 0 where
  refused :
      (fault : ConfigFault) → stop ≡ Refused (Configured fault)
      → IfSome before.holds (λ tree. RefusesConfig words tree fault) → CanRefuseConfig words fault
      → OnlyLooks before after ⊥ → StopsConfig words before after stop
  read_fault : stop ≡ ReadFault → OnlyLooks before after (stop ≡ ReadFault) → StopsConfig words before after stop
  memory : stop ≡ Memory → OnlyLooks before after ⊥ → StopsConfig words before after stop

pub record IsConfigured (words : List (List ℕ)) (command : Command) (before after : FolderState)
    (config : Config) : Type 0 where
  pub is : IsConfigAt words command config before
  pub looks : OnlyLooks before after ⊥

pub record FindsConfig (words : List (List ℕ)) (command : Command) (before : FolderState)
    (result : Result Config Stop) (after : FolderState) : Type 0 where
  pub found : IfOk result (IsConfigured words command before after)
  pub asked : IfSome before.asked (λ old. AsksOwn (project_path ∷ []) old after)
  pub stopped : IfErr result (StopsConfig words before after)
