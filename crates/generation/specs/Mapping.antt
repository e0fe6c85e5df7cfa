-- The map of a trace, whatever made it.
--     MapsTrace config all result      what the call gives that makes a map of what was gathered
--     TracesGenerate      what comes of a trace of a folder, with the map of what it gathered, is what generation gives
use Rattle.std.specs.Prelude.{◌≡◌, ◌≢◌, Result, Ok, Err, IfOk, IfErr}
use Rattle.std.specs.FinMap.{get}
use Rattle.tree_spec.specs.States.{FolderState}
use Rattle.tree_spec.specs.Trees.{Tree}
use Rattle.package_lookup.specs.declared.known.Known.{Known}
use Rattle.trace_spec.specs.Checks.{Gathered}
use Rattle.trace_spec.specs.Modules.{Config}
use Rattle.trace_spec.specs.Traces.{traced}
use Rattle.generator_spec.specs.declared.Command.{Command}
use Rattle.generator_spec.specs.Commands.{IsGenerating, Opens, Refuses, IsRefusalOf}
use Rattle.generation.specs.declared.generated.Generated.{Generated}
use Rattle.generation.specs.declared.stop.Stop.{Stop}
use Rattle.generation.specs.declared.stop.Stop.TheVariants.{ReadFault}
use Rattle.generation.specs.Generating.{IfRefused, IsMapOf, TracingOver, GeneratingOver}

-- own: the map, or why each command that generates is refused, of each tree that has this trace; and whatever has it,
-- each can be refused so. What isn't refused is want of memory
pub record MapsTrace (config : Config) (all : Gathered) (result : Result Generated Stop) : Type 0 where
  pub map : IfOk result (IsMapOf config all)
  pub refused :
      IfErr result (IfRefused (λ why. (tree : Tree) → traced (get tree) config ≡ Ok all → (command : Command)
      → IsGenerating command → Opens tree config command → Refuses tree config command why))
  pub kind :
      IfErr result (IfRefused (λ why. (command : Command) → IsGenerating command → IsRefusalOf config command why))
  pub no_look : result ≢ Err ReadFault

-- own: whoever traced, and whoever made the map
pub record TracesGenerate : Type 0 where
  pub mapped :
      (config : Config) (before after : FolderState) (known later : Known) (all : Gathered)
      (result : Result Generated Stop) → TracingOver config before known (Ok all) after later
      → MapsTrace config all result → GeneratingOver config before known result after later
  pub stopped :
      (config : Config) (before after : FolderState) (known later : Known) (stop : Stop)
      → TracingOver config before known (Err stop) after later
      → GeneratingOver config before known (Err stop) after later
