-- What comes of a measure, and what is said of it.
--     Measures number result      the map of the stated tree with its counts, or why there is none
--     TellsMeasure number generated out out_after result      the line of the measure, or want of memory
--     RunsMeasure number out out_after result steps later     the run ends as words end that ask for this measure, and
--                                                             it takes few steps
use Rattle.std.specs.Prelude.{◌≡◌, ◌≤◌, ◌+◌, ◌⊎◌, ℕ, List, Result, Err, IfOk, IfErr}
use Rattle.tree_spec.specs.declared.LimitName.TheVariants.{Modules, Requests}
use Rattle.tree_spec.specs.Limits.{limit_number}
use Rattle.tree_spec.specs.States.{FolderState, SinkState}
use Rattle.workload_spec.specs.Packages.{tree_of}
use Rattle.config_spec.specs.declared.Command.TheVariants.{Refresh}
use Rattle.config_spec.specs.Projects.{measure_config}
use Rattle.config_spec.specs.Words.{Measures as AsksMeasure}
use Rattle.generator_spec.specs.Commands.{IsRefusalOf}
use Rattle.generator_spec.specs.Ending.{Ends, EndsAs}
use Rattle.generator_spec.specs.Lines.{measure_line, memory_line}
use Rattle.generator_spec.specs.Measuring.{RefusesMeasure}
use Rattle.generator_spec.specs.Statuses.{done_status, memory_status}
use Rattle.generator_spec.specs.Steps.{MeasureSpends}
use Rattle.generation.specs.declared.generated.Generated.{Generated}
use Rattle.generation.specs.declared.stop.Stop.{Stop}
use Rattle.generation.specs.declared.stop.Stop.TheVariants.{ReadFault}
use Rattle.generation.specs.Generating.{IfRefused, IsMapOfTree}

-- own: no look of the stated tree fails
pub record Measures (number : ℕ) (result : Result Generated Stop) : Type 0 where
  pub generated : IfOk result (IsMapOfTree (tree_of number) measure_config)
  pub refused : IfErr result (IfRefused (RefusesMeasure number))
  pub kind : IfErr result (IfRefused (IsRefusalOf measure_config Refresh))
  pub no_fault : result ≡ Err ReadFault → ⊥

abbrev pub TellsMeasure : ℕ → Generated → SinkState → SinkState → ℕ → Type 0
TellsMeasure number generated out out_after result =
    Ends done_status (measure_line number generated.modules generated.requests generated.mappings) out out_after result
    ⊎ Ends memory_status memory_line out out_after result

-- own: whatever the folder tells, which isn't touched
pub record RunsMeasure (number : ℕ) (out out_after : SinkState) (result steps later : ℕ) : Type 0 where
  pub end :
      (words : List (List ℕ)) (state : FolderState) → AsksMeasure words number
      → EndsAs words state state out out_after result
  pub told : result ≡ done_status → MeasureSpends number out out_after steps later
  pub bounded : later ≤ steps + (limit_number Modules + limit_number Requests)
