-- What a call for a config gives.
--     config_with base page conditions entries      the config of these
--     Comes outcome result      the result is this outcome, or memory is wanted
use Rattle.std.specs.Prelude.{◌≡◌, ℕ, List, Result, Ok, Err, ⊤}
use Rattle.config_spec.specs.declared.ConfigFault.{ConfigFault}
use Rattle.trace_spec.specs.Modules.{Config}
use Rattle.project_config.specs.declared.fault.NoConfig.{NoConfig}
use Rattle.project_config.specs.declared.fault.NoConfig.TheVariants.{Refused, Memory}

abbrev pub config_with : List ℕ → List ℕ → List (List ℕ) → List (List ℕ) → Config
config_with base page conditions entries =
    record { base = base; page = page; conditions = conditions; entries = entries }

-- own: want of memory can come with any outcome
abbrev pub Comes : Result Config ConfigFault → Result Config NoConfig → Type 0
Comes outcome (Ok config) = outcome ≡ Ok config
Comes outcome (Err (Refused fault)) = outcome ≡ Err fault
Comes outcome (Err Memory) = ⊤
