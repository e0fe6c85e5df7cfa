-- How a measure comes to its line.
use Rattle.std.proofs.Common.{◌≡◌, ◌≤◌, ◌+◌, ◌++◌, ℕ, List, [], ◌∷◌, Option, Some, None, Ok, Err, IfSome, Result, inl, inr, refl, sym, ap, ◌∙◌, subst, arith}
use Rattle.std.specs.Prelude.{option_map, ⊤}
use Rattle.tree_spec.specs.declared.LimitName.TheVariants.{Modules, Requests}
use Rattle.tree_spec.specs.Limits.{limit_number}
use Rattle.tree_spec.specs.Counts.{Rose}
use Rattle.tree_spec.specs.States.{FolderState, SinkState}
use Rattle.tree_spec.specs.Trees.{Tree}
use Rattle.tree_spec.proofs.ToldStates.{if_all}
use Rattle.trace_spec.specs.Modules.{Config}
use Rattle.workload_spec.specs.Packages.{tree_of}
use Rattle.words_spec.specs.PlainWords.{Asked, Asks, Asks as asks, LinkOptions, LinkWords, LinkWords as link, measuring, most_packages}
use Rattle.config_spec.specs.declared.Command.TheVariants.{Refresh}
use Rattle.config_spec.specs.Projects.{measure_config}
use Rattle.config_spec.specs.Words.{Measures as AsksMeasure}
use Rattle.generator_spec.specs.Commands.{IsMapping as mapping, IsRefusalOf, Opens as opens, Refuses}
use Rattle.generator_spec.specs.Generation.{Generates}
use Rattle.generator_spec.specs.Lines.{measure_line, measured_line, memory_line}
use Rattle.generator_spec.specs.Outcome.{ComesTo as comes, RefusesRun as refuses_run, Outcome}
use Rattle.generator_spec.specs.Ending.{CanRefuse as can_refuse, IsDone, IsDone as done, Says as says, Shaped as shaped, Ends, Ends as ends, EndsAs}
use Rattle.generator_spec.specs.Steps.{MeasureSpends}
use Rattle.generation.specs.declared.generated.Generated.{Generated}
use Rattle.generation.specs.declared.stop.Stop.{Stop}
use Rattle.generation.specs.declared.stop.Stop.TheVariants.{Refused, ReadFault, Memory}
use Rattle.generation.specs.Generating.{Generating, IsMapOfTree}
use Rattle.request_trace.specs.Tracing.{TakesSteps}
use Rattle.generator_core.specs.Measuring.{Measures, RunsMeasure, TellsMeasure}
use Rattle.generator_core.specs.Writing.{TellsStop}
use Rattle.generator_core.proofs.Endings.{ends_by_line, memory_ends, refusal_ends, still, status_done, stop_not_done}

-- ---- the number that is asked for

abbrev FewPackages : Asked → Type 0
FewPackages (measuring number) = number ≤ most_packages
FewPackages other = ⊤

few_linked : {options : LinkOptions} {words : List (List ℕ)} {asked : Asked} → LinkWords options words asked → FewPackages asked
few_linked (link.entries are) = tt
few_linked (link.two_words option value rest is none more) = few_linked more
few_linked (link.one_word option value rest is none more) = few_linked more

few_asked : {words : List (List ℕ)} {asked : Asked} → Asks words asked → FewPackages asked
few_asked (asks.link more) = few_linked more
few_asked (asks.unlink entry entries are) = tt
few_asked asks.refresh = tt
few_asked asks.check = tt
few_asked asks.check_strictly = tt
few_asked asks.list = tt
few_asked asks.inject = tt
few_asked asks.session = tt
few_asked (asks.why path is) = tt
few_asked (asks.vendor path is) = tt
few_asked (asks.measure number some few) = few

pub few_packages : (words : List (List ℕ)) (number : ℕ) → AsksMeasure words number → number ≤ most_packages
few_packages words number is = few_asked is

-- ---- over the stated tree

module _ (number : ℕ) (config : Config) (before after : FolderState) (same : config ≡ measure_config) (holds : before.holds ≡ Some (tree_of number)) where
  there : (P : Tree → Type 0) → IfSome before.holds P → P (tree_of number)
  there P is = subst (λ held. IfSome held P) holds is

  pub measures_of : before.look_faults ≡ 0 → after.look_faults ≡ 0 → (result : Result Generated Stop) → Generating config before result after → Measures number result
  measures_of none none_after (Ok found) is = record {
    generated = subst (λ c. IsMapOfTree (tree_of number) c found) same (there (λ tree. IsMapOfTree tree config found) is.generated);
    refused = tt;
    kind = tt;
    no_fault = λ e. absurd (cc);
  }
  measures_of none none_after (Err (Refused why)) is = record {
    generated = tt;
    refused = subst (λ c. Refuses (tree_of number) c Refresh why) same (there _ is.refused Refresh tt (opens.nothing Refresh mapping.refresh));
    kind = subst (λ c. IsRefusalOf c Refresh why) same (is.kind Refresh tt);
    no_fault = λ e. absurd (cc);
  }
  measures_of none none_after (Err ReadFault) is =
      let rose : Rose before.look_faults after.look_faults = is.looks.cause refl in
      let wrong : Rose 0 0 = subst (λ n. Rose n 0) none (subst (λ n. Rose before.look_faults n) none_after rose) in
      absurd (omega (arith, wrong))
  measures_of none none_after (Err Memory) is = record { generated = tt; refused = tt; kind = tt; no_fault = λ e. absurd (cc) }

pub lacks_measure : (number : ℕ) → Measures number (Err Memory)
lacks_measure number = record { generated = tt; refused = tt; kind = tt; no_fault = λ e. absurd (cc) }

-- ---- the end

module _ (words : List (List ℕ)) (number : ℕ) (asked : AsksMeasure words number) (state : FolderState) (out out_after : SinkState) (result : ℕ) where
  module _ (generated : Generated) (is : IsMapOfTree (tree_of number) measure_config generated) where
    abbrev line_here : List ℕ
    line_here = measure_line number generated.modules generated.requests generated.mappings

    generates : Generates (tree_of number) measure_config generated.map.items
    generates = record { all = is.all; is_traced = is.is_traced; few = is.is_map.few; layout = is.is_map.layout; is_fewest = is.is_map.is_fewest; text = is.is_map.map; within = is.is_map.within }

    said_same : line_here ≡ measured_line number is.all is.is_map.layout
    said_same = λ i. measure_line number (is.is_map.modules i) (is.is_map.requests i) (is.is_map.mappings i)

    measured_told : (held : Option Tree) → IfSome held (λ tree. (later : Tree) × Outcome words tree 0 (line_here ∷ []) later × (held ≡ Some later))
    unfolding generates
    measured_told None = tt
    measured_told (Some tree) =
        (tree, record { files = []; comes = comes.measured number generated.map.items asked generates refl (ap (λ line. line ∷ []) said_same) refl; placed = refl }, refl)

    measured_done : (held : Option Tree) → IfSome held (λ tree. IsDone words tree held)
    measured_done None = tt
    measured_done (Some tree) = done.measured (record { number = number; measures = asked; map = generated.map.items; generates = generates }) refl

    pub measure_ends : TellsMeasure number generated out out_after result → out.faults ≤ out_after.faults → EndsAs words state state out out_after result
    measure_ends (inl told) later =
        ends_by_line words state state out out_after result 0 line_here (λ e. e) (λ zero. measured_done state.holds)
        (says.outcome (shaped.measured (record { number = number; measures = asked; modules = generated.modules; requests = generated.requests; mappings = generated.mappings; ends = refl; says = refl })) (measured_told state.holds) refl refl)
        told (omega arith) (omega arith) later
    measure_ends (inr lacks) later = memory_ends words state state out out_after result refl refl refl lacks later

  pub measure_stops : (stop : Stop) → Measures number (Err stop) → TellsStop stop out out_after result → out.faults ≤ out_after.faults → EndsAs words state state out out_after result
  measure_stops (Refused why) is told later =
      refusal_ends words state state out out_after result why (if_all state.holds (λ tree. refuses_run.by_measure number why asked is.refused)) (can_refuse.by_measure number why asked is.kind) (still state) told later
  measure_stops ReadFault is told later = absurd (is.no_fault refl)
  measure_stops Memory is told later = memory_ends words state state out out_after result refl refl refl told later

-- ---- steps

module _ (number : ℕ) (out out_after : SinkState) (result steps later : ℕ) where
  said_measure : (line : List ℕ) → Ends 0 line out out_after result → result ≡ 0 → out_after.got ≡ option_map (λ front. front ++ line) out.got
  said_measure line (ends.said is given quiet) zero = given
  said_measure line (ends.output_fault is gives rose) zero = let e = sym is ∙ zero in absurd (omega (arith, e))

  measure_told : (generated : Generated) → TellsMeasure number generated out out_after result → later ≤ steps + (generated.modules + generated.requests) → result ≡ 0 → MeasureSpends number out out_after steps later
  measure_told generated (inl told) few zero = record {
    modules = generated.modules;
    requests = generated.requests;
    mappings = generated.mappings;
    said = said_measure (measure_line number generated.modules generated.requests generated.mappings) told zero;
    few = few;
  }
  measure_told generated (inr lacks) few zero = let e = status_done 8 memory_line out out_after result lacks zero in absurd (omega (arith, e))

  pub runs_measure : (generated : Generated) → Measures number (Ok generated) → TellsMeasure number generated out out_after result → out.faults ≤ out_after.faults → TakesSteps {A = Generated} {E = Stop} (Ok generated) (λ found. found.modules + found.requests) steps later → RunsMeasure number out out_after result steps later
  runs_measure generated is told more takes = record {
    end = λ words state asked. measure_ends words number asked state out out_after result generated is.generated told more;
    told = λ zero. measure_told generated told takes.counted zero;
    bounded = takes.bounded;
  }

  pub stops_measure : (stop : Stop) → Measures number (Err stop) → TellsStop stop out out_after result → out.faults ≤ out_after.faults → later ≤ steps + (limit_number Modules + limit_number Requests) → RunsMeasure number out out_after result steps later
  stops_measure stop is told more bounded = record {
    end = λ words state asked. measure_stops words number asked state out out_after result stop is told more;
    told = λ zero. absurd (stop_not_done stop out out_after result told zero);
    bounded = bounded;
  }
