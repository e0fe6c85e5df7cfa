-- What the calls that trace and generate give.
--     StopsAs fault stop      a command ends so that has no trace
--     IfRefused P stop      of a refusal, this
--     IsMapOf config all generated      the map's text and its counts are those of these tables
--     HasLargeMap config all      the text of the map of these tables is too large
--     AsksNoPathTwice old after      the folder was asked for further paths, for none of them twice
--     AsksFootprint config holds old after      where a tree is told, its trace looks at all further paths by its end
--     AsksFurther config before after      a folder that tells what it is asked for was asked so
--     StepsToEnd config holds before after      no more steps than the trace of a told tree asks questions until it ends
--     Tracing config before result after      the trace of a folder, and what is left of that
--     generated_of result      the map, without its trace
--     Generating config before result after      what the call that generates gives for a folder, and what it leaves
--     IfSeen tree known P      of each tree that is seen where this is known of the tree behind, this
--     TracingOver, GeneratingOver config before known result after later      the same, where something is known of the
--                                                                             folder
use Rattle.std.specs.Prelude.{◌≡◌, ◌≢◌, ◌≤◌, ◌<◌, ◌+◌, ◌++◌, ⊤, ℕ, List, length, bytes_eq, All}
use Rattle.std.specs.Prelude.{Option, Some, Result, Ok, Err, IfOk, IfErr, IfSome}
use Rattle.std.specs.FinMap.{get}
use Rattle.std.specs.List.{IsDistinct}
use Rattle.tree_spec.specs.declared.LimitName.TheVariants.{Map}
use Rattle.tree_spec.specs.Limits.{limit_number}
use Rattle.tree_spec.specs.Trees.{Tree}
use Rattle.tree_spec.specs.States.{FolderState, OnlyLooks}
use Rattle.import_map_spec.specs.ParsedMap.{ParsedMap}
use Rattle.layout_spec.specs.PrintedMap.{map_text}
use Rattle.layout_spec.specs.Counting.{mapping_count}
use Rattle.fewest_spec.specs.Fewest.{IsFewestLayout}
use Rattle.fewest_spec.specs.Wishes.{HasTooManyChoices}
use Rattle.trace_spec.specs.declared.TraceFault.{TraceFault}
use Rattle.trace_spec.specs.declared.TraceFault.TheVariants as fault
use Rattle.trace_spec.specs.Modules.{Config}
use Rattle.trace_spec.specs.Checks.{Gathered}
use Rattle.trace_spec.specs.Laws.{asked_by_end, IsLookedAt}
use Rattle.trace_spec.specs.Questions.{Question}
use Rattle.trace_spec.specs.Traces.{traced}
use Rattle.package_lookup.specs.declared.known.Known.{Known}
use Rattle.package_lookup.specs.Looked.{Sees}
use Rattle.package_lookup.specs.Learning.{Learns}
use Rattle.request_trace.specs.Showing.{Traced}
use Rattle.request_trace.specs.Tracing.{known_of, IsOfFootprint}
use Rattle.generator_spec.specs.declared.Command.{Command}
use Rattle.generator_spec.specs.declared.Refusal.{Refusal}
use Rattle.generator_spec.specs.declared.Refusal.TheVariants.{Trace}
use Rattle.generator_spec.specs.Commands.{IsGenerating, Opens, Refuses, IsRefusalOf}
use Rattle.generator_spec.specs.Digests.{with_digests}
use Rattle.generator_spec.specs.Generation.{map_base}
use Rattle.generation.specs.declared.generated.Generated.{Generated}
use Rattle.generation.specs.declared.stop.Stop.{Stop}
use Rattle.generation.specs.declared.stop.Stop.TheVariants.{Refused, ReadFault, Memory}

-- a failed look and want of memory are no refusals
pub data StopsAs (why : TraceFault) : Stop → Type 0 where
  failed_look : why ≡ fault.ReadFault → StopsAs why ReadFault
  memory : why ≡ fault.Memory → StopsAs why Memory
  refused : why ≢ fault.ReadFault → why ≢ fault.Memory → StopsAs why (Refused (Trace why))

abbrev pub IfRefused : (Refusal → Type 0) → Stop → Type 0
IfRefused P (Refused why) = P why
IfRefused P ReadFault = ⊤
IfRefused P Memory = ⊤

-- the text of the layout with the fewest mappings with the digests of the modules, and what is told of it
pub record IsMapOf (config : Config) (all : Gathered) (generated : Generated) : Type 0 where
  pub few : HasTooManyChoices all.needs → ⊥
  pub layout : ParsedMap
  pub is_fewest : IsFewestLayout all.needs layout
  pub map : generated.map.items ≡ map_text (map_base config) (with_digests config all layout)
  pub within : length generated.map.items ≤ limit_number Map
  pub modules : generated.modules ≡ length all.modules
  pub requests : generated.requests ≡ length all.targets
  pub mappings : generated.mappings ≡ mapping_count layout

pub record HasLargeMap (config : Config) (all : Gathered) : Type 0 where
  pub few : HasTooManyChoices all.needs → ⊥
  pub layout : ParsedMap
  pub is_fewest : IsFewestLayout all.needs layout
  pub large : limit_number Map < length (map_text (map_base config) (with_digests config all layout))

-- own: the map of the tree's trace
pub record IsMapOfTree (tree : Tree) (config : Config) (generated : Generated) : Type 0 where
  pub all : Gathered
  pub is_traced : traced (get tree) config ≡ Ok all
  pub is_map : IsMapOf config all generated

-- own: the folder was asked for further paths, for none of them twice
pub record AsksNoPathTwice (old : List (List ℕ)) (after : FolderState) : Type 0 where
  pub more : List (List ℕ)
  pub asked : after.asked ≡ Some (old ++ more)
  pub once : IsDistinct bytes_eq more

-- own: whatever further paths it was asked for
abbrev pub AsksFootprint : Config → Option Tree → List (List ℕ) → FolderState → Type 0
AsksFootprint config holds old after =
    (more : List (List ℕ)) → after.asked ≡ Some (old ++ more)
    → IfSome holds (λ tree. All (IsLookedAt (get tree) config) more)

-- own: both, of a folder that tells for which paths it was asked
pub record AsksFurther (config : Config) (before after : FolderState) : Type 0 where
  pub once : IfSome before.asked (λ old. AsksNoPathTwice old after)
  pub footprint : IfSome before.asked (λ old. AsksFootprint config before.holds old after)

-- own: whether or not it is refused there
abbrev pub StepsToEnd : Config → Option Tree → ℕ → ℕ → Type 0
StepsToEnd config holds before after =
    IfSome holds
    (λ tree. (asked : List Question) → asked_by_end (get tree) config ≡ Some asked → after ≤ before + length asked)

-- own: a told tree has this trace, or refuses each command that is opened so; and whatever is told, each can be refused
-- so. What isn't refused is a look that failed and was counted, or want of memory
pub record Tracing (config : Config) (before : FolderState) (result : Result Gathered Stop)
    (after : FolderState) : Type 0 where
  pub traces : IfOk result (λ all. IfSome before.holds (λ tree. traced (get tree) config ≡ Ok all))
  pub refused :
      IfErr result (IfRefused (λ why. IfSome before.holds (λ tree. (command : Command) → Opens tree config command
      → Refuses tree config command why)))
  pub kind : IfErr result (IfRefused (λ why. (command : Command) → IsRefusalOf config command why))
  pub asked : IfSome before.asked (λ old. AsksNoPathTwice old after)
  pub footprint : IfSome before.asked (λ old. AsksFootprint config before.holds old after)
  pub looks : OnlyLooks before after (result ≡ Err ReadFault)

abbrev pub generated_of : Result (Generated × Traced) Stop → Result Generated Stop
generated_of (Ok found) = Ok found.0
generated_of (Err stop) = Err stop

-- own: a told tree has the trace whose map this is, or refuses each command that generates and is opened so; and the
-- rest as for a trace
pub record Generating (config : Config) (before : FolderState) (result : Result Generated Stop)
    (after : FolderState) : Type 0 where
  pub generated : IfOk result (λ found. IfSome before.holds (λ tree. IsMapOfTree tree config found))
  pub refused :
      IfErr result (IfRefused (λ why. IfSome before.holds (λ tree. (command : Command) → IsGenerating command
      → Opens tree config command → Refuses tree config command why)))
  pub kind :
      IfErr result (IfRefused (λ why. (command : Command) → IsGenerating command → IsRefusalOf config command why))
  pub asked : IfSome before.asked (λ old. AsksNoPathTwice old after)
  pub footprint : IfSome before.asked (λ old. AsksFootprint config before.holds old after)
  pub looks : OnlyLooks before after (result ≡ Err ReadFault)

-- ---- where something is known of the folder

-- own: whatever is laid over the tree behind, or was kept of it
abbrev pub IfSeen : Tree → Known → (Tree → Type 0) → Type 0
IfSeen tree known P = (seen : Tree) → Sees tree known (get seen) → P seen

pub record TracingOver (config : Config) (before : FolderState) (known : Known) (result : Result Gathered Stop)
    (after : FolderState) (later : Known) : Type 0 where
  pub traces :
      IfOk result (λ all. IfSome before.holds (λ tree. IfSeen tree known (λ seen. traced (get seen) config ≡ Ok all)))
  pub refused :
      IfErr result (IfRefused (λ why. IfSome before.holds (λ tree. IfSeen tree known (λ seen. (command : Command)
      → Opens seen config command → Refuses seen config command why))))
  pub kind : IfErr result (IfRefused (λ why. (command : Command) → IsRefusalOf config command why))
  pub learns :
      Learns (known_of before known) (known_of after later) (result ≡ Err Memory) (IsOfFootprint config before known)
  pub looks : OnlyLooks before after (result ≡ Err ReadFault)

pub record GeneratingOver (config : Config) (before : FolderState) (known : Known) (result : Result Generated Stop)
    (after : FolderState) (later : Known) : Type 0 where
  pub generated :
      IfOk result (λ found. IfSome before.holds (λ tree. IfSeen tree known (λ seen. IsMapOfTree seen config found)))
  pub refused :
      IfErr result (IfRefused (λ why. IfSome before.holds (λ tree. IfSeen tree known (λ seen. (command : Command)
      → IsGenerating command → Opens seen config command → Refuses seen config command why))))
  pub kind :
      IfErr result (IfRefused (λ why. (command : Command) → IsGenerating command → IsRefusalOf config command why))
  pub learns :
      Learns (known_of before known) (known_of after later) (result ≡ Err Memory) (IsOfFootprint config before known)
  pub looks : OnlyLooks before after (result ≡ Err ReadFault)
