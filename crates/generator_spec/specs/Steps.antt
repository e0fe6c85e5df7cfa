-- How many steps a run takes. own: no public standard speaks of it.
--     SpendsFew out out_after before after      where the output tells what it took: the line of a map went out, with
--                                               so many modules and requests that they are no fewer than the steps
--     MeasureSpends number out out_after before after      the same of the line of a measure
--     further_steps all command                 how many steps come behind the trace
--     steps_behind trace command                the same of a trace that may be refused
--     SpendsByTrace tree command config before after      no more steps than the tree's trace asks questions until it
--                                               ends, and come behind it; and none, unless what the command needs before
--                                               its trace is there
--     TraceSpends words tree before after       so it is with the config that the words and the tree give; where they give
--                                               none, no step is taken, unless the words ask for a measure
--     IsBeforeTrace why                         the refusal comes before a trace: of a config, a page or a map's file
--     RunSpends words holds out out_after result before after      no more steps than its line tells, where a command
--                                               that writes a map is done, or a measure, and the output tells what it
--                                               took; no more than the trace has, where the tree is told; never more
--                                               than there may be modules and requests, and where each module is
--                                               checked once more as many modules; and none where the words ask for no command
--                                               and no measure
use Rattle.std.specs.Prelude.{◌≡◌, ◌≤◌, ◌⊎◌, ◌+◌, ◌++◌, ℕ, List, length, Option, Some, IfSome, Result, Ok, Err}
use Rattle.std.specs.Prelude.{option_map}
use Rattle.std.specs.FinMap.{get}
use Rattle.tree_spec.specs.declared.LimitName.TheVariants.{Modules, Requests}
use Rattle.tree_spec.specs.Limits.{limit_number}
use Rattle.tree_spec.specs.States.{SinkState}
use Rattle.tree_spec.specs.Trees.{Tree}
use Rattle.trace_spec.specs.Checks.{Gathered}
use Rattle.trace_spec.specs.declared.TraceFault.{TraceFault}
use Rattle.trace_spec.specs.Laws.{asked_by_end}
use Rattle.trace_spec.specs.Modules.{Config}
use Rattle.trace_spec.specs.Questions.{Question}
use Rattle.trace_spec.specs.Traces.{traced}
use Rattle.config_spec.specs.declared.Command.{Command}
use Rattle.config_spec.specs.declared.Command.TheVariants.{Link, Unlink, Refresh, Inject, Check, CheckStrictly, Why}
use Rattle.config_spec.specs.declared.Command.TheVariants.{Vendor}
use Rattle.config_spec.specs.declared.Command.TheVariants.{List as Lists}
use Rattle.config_spec.specs.declared.ConfigFault.{ConfigFault}
use Rattle.config_spec.specs.Projects.{IsConfigOf}
use Rattle.config_spec.specs.Words.{IsCommandOf, Measures}
use Rattle.generator_spec.specs.declared.MapFileFault.{MapFileFault}
use Rattle.generator_spec.specs.declared.PageFault.{PageFault}
use Rattle.generator_spec.specs.declared.Refusal.{Refusal}
use Rattle.generator_spec.specs.declared.Refusal.TheVariants.{Config as Configured, MapFile, Page}
use Rattle.generator_spec.specs.Commands.{Opens, SaysCounts}
use Rattle.generator_spec.specs.Lines.{counts_line, measure_line}
use Rattle.generator_spec.specs.Statuses.{done_status}

-- own: a step for each module and for each request that the line tells, at most; of an output that tells nothing, no
-- line is known, and nothing is said but that it goes on telling nothing
pub record SpendsFew (out out_after : SinkState) (before after : ℕ) : Type 0 where
  pub modules : ℕ
  pub requests : ℕ
  pub mappings : ℕ
  pub said : out_after.got ≡ option_map (λ front. front ++ counts_line modules requests mappings) out.got
  pub few : after ≤ before + (modules + requests)

pub record MeasureSpends (number : ℕ) (out out_after : SinkState) (before after : ℕ) : Type 0 where
  pub modules : ℕ
  pub requests : ℕ
  pub mappings : ℕ
  pub said : out_after.got ≡ option_map (λ front. front ++ measure_line number modules requests mappings) out.got
  pub few : after ≤ before + (modules + requests)

-- own: `check --strict` reads the outline of each module once more
abbrev pub further_steps : Gathered → Command → ℕ
further_steps all Link = 0
further_steps all Unlink = 0
further_steps all Refresh = 0
further_steps all Inject = 0
further_steps all Check = 0
further_steps all CheckStrictly = length all.modules
further_steps all Lists = 0
further_steps all Why = 0
further_steps all Vendor = 0

-- own: behind a refusal nothing is read
abbrev pub steps_behind : Result Gathered TraceFault → Command → ℕ
steps_behind (Ok all) command = further_steps all command
steps_behind (Err refusal) command = 0

-- own: however the run ends, also by a refusal, a fault or want of memory. Of a trace that isn't refused there is one
-- question for each module and one for each request; of one that is refused, those up to the refusal
pub record SpendsByTrace (tree : Tree) (command : Command) (config : Config) (before after : ℕ) : Type 0 where
  pub asked : List Question
  pub are : asked_by_end (get tree) config ≡ Some asked
  pub few : after ≤ before + length asked + steps_behind (traced (get tree) config) command
  pub opened : (after ≡ before) ⊎ Opens tree config command

-- own: words that a tree gives no config have no trace; a measure needs none, since its tree is stated
pub record TraceSpends (words : List (List ℕ)) (tree : Tree) (before after : ℕ) : Type 0 where
  pub by_config :
      (command : Command) (config : Config) → IsConfigOf words tree command config
      → SpendsByTrace tree command config before after
  pub no_config :
      ((command : Command) (config : Config) → IsConfigOf words tree command config → ⊥)
      → ((number : ℕ) → Measures words number → ⊥) → after ≡ before

-- own: `inject` reads its page first, and `check` the map's file
pub data IsBeforeTrace : Refusal → Type 0 where
  of_config : (fault : ConfigFault) → IsBeforeTrace (Configured fault)
  of_page : (fault : PageFault) → IsBeforeTrace (Page fault)
  of_map_file : (fault : MapFileFault) → IsBeforeTrace (MapFile fault)

-- own: `told` where a command that writes a map answers 0, `measured` where a measure does, `by_trace` where the tree
-- is told, `bounded` however the run ends, but where it is asked to check strictly, `strictly` however it ends,
-- `unspent` where the words ask for neither
pub record RunSpends (words : List (List ℕ)) (holds : Option Tree) (out out_after : SinkState)
    (result before after : ℕ) : Type 0 where
  pub told :
      (command : Command) → IsCommandOf words command → SaysCounts command → result ≡ done_status
      → SpendsFew out out_after before after
  pub measured :
      (number : ℕ) → Measures words number → result ≡ done_status → MeasureSpends number out out_after before after
  pub by_trace : IfSome holds (λ tree. TraceSpends words tree before after)
  pub bounded :
      (IsCommandOf words CheckStrictly → ⊥) → after ≤ before + (limit_number Modules + limit_number Requests)
  pub strictly : after ≤ before + (limit_number Modules + limit_number Requests) + limit_number Modules
  pub unspent :
      ((command : Command) → IsCommandOf words command → ⊥) → ((number : ℕ) → Measures words number → ⊥)
      → after ≡ before
