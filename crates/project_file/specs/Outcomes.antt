-- What `read_project` and `print_project` answer, in the words of a project's file.
--     IsNoProject bytes fault     the bytes have this fault, unless no memory was found
--     GivesNone value fault       the same of a JSON value
--     IsDescribed value found     the value describes the config that was found, or none
use Rattle.std.specs.Prelude.{ℕ, List, ⊤, Option, Some, None, Ok, Err}
use Rattle.json_spec.specs.Value.{Json}
use Rattle.trace_spec.specs.Modules.{Config}
use Rattle.project_spec.specs.ProjectFiles as spec
use Rattle.project_spec.specs.ProjectFiles.{Describes, Gives, ReadsProject, PassesLimit}
use Rattle.project_file.specs.declared.fault.ProjectFault.{ProjectFault}
use Rattle.project_file.specs.declared.fault.ProjectFault.TheVariants.{BadFile, Limit, Memory}

abbrev pub IsNoProject : List ℕ → ProjectFault → Type 0
IsNoProject bytes (BadFile at) = ReadsProject bytes (Err (spec.BadFile at))
IsNoProject bytes (Limit which) = ReadsProject bytes (Err (PassesLimit which))
IsNoProject bytes Memory = ⊤

abbrev pub GivesNone : Json → ProjectFault → Type 0
GivesNone value (BadFile at) = Gives (Ok value) (Err (spec.BadFile at))
GivesNone value (Limit which) = Gives (Ok value) (Err (PassesLimit which))
GivesNone value Memory = ⊤

abbrev pub IsDescribed : Json → Option Config → Type 0
IsDescribed value None = (config : Config) → Describes value config → ⊥
IsDescribed value (Some config) = Describes value config
