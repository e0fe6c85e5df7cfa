-- What the code's values stand for.
--     shown_by show result       a result whose value is shown so
--     sources                    what an answerer gives for a module
--     answer_of, resolutions     Node's answer; what an answerer gives for a request
--     specifiers_of asked        what a referrer asks for
--     module_at modules place    the module at a place among these
--     before_of tables           the tables of a walk
--     done result tables         a call's result, with what the tables hold then
--     traced_of result           the result of a walk
use Rattle.std.specs.Prelude.{ℕ, List, map, get_or, Result, Ok, Err}
use Rattle.indexmap.specs.IndexMap.{keys}
use Rattle.module_spec.specs.declared.request.Request.{Request}
use Rattle.node_spec.specs.NodeAnswers.{Module, Refusal, by_cause, too_deep}
use Rattle.trace_spec.specs.declared.TraceFault.{TraceFault}
use Rattle.trace_spec.specs.Questions as spec
use Rattle.trace_spec.specs.Checks.{Gathered}
use Rattle.trace_spec.specs.Laws.{no_module}
use Rattle.module_sources.specs.declared.source.Source.{Source}
use Rattle.module_sources.specs.declared.source.NoSource.{NoSource}
use Rattle.module_sources.specs.Shown.{source_of, source_in}
use Rattle.trace_walk.specs.declared.answerer.NodeAnswer.{NodeAnswer}
use Rattle.trace_walk.specs.declared.answerer.NodeAnswer.TheVariants.{Resolved, Refused, TooDeep}
use Rattle.trace_walk.specs.declared.specifiers.Specifiers.{Specifiers}
use Rattle.trace_walk.specs.declared.specifiers.Specifiers.TheVariants.{Entries, Requests}
use Rattle.trace_walk.specs.declared.tables.Tables.{Tables}

-- under a result
abbrev pub shown_by : {X Y : Type 0} → (X → Y) → Result X TraceFault → Result Y TraceFault
shown_by show (Ok value) = Ok (show value)
shown_by show (Err fault) = Err fault

abbrev pub sources : Result (Result Source NoSource) TraceFault → Result (Result spec.Source spec.NoSource) TraceFault
sources result = shown_by source_in result

abbrev pub answer_of : NodeAnswer → Result Module Refusal
answer_of (Resolved target) = Ok target
answer_of (Refused cause) = Err (by_cause cause)
answer_of TooDeep = Err too_deep

abbrev pub resolutions : Result NodeAnswer TraceFault → Result (Result Module Refusal) TraceFault
resolutions result = shown_by answer_of result

abbrev pub specifiers_of : Specifiers → List (List ℕ)
specifiers_of (Entries entries) = entries.now
specifiers_of (Requests requests) = map (λ (request : Request). request.text) requests.now

abbrev pub module_at : List Module → ℕ → Module
module_at modules place = get_or modules place no_module

abbrev pub before_of : Tables → Gathered
before_of tables = record {
  modules = keys tables.modules;
  sources = map source_of tables.sources.items;
  needs = tables.needs;
  spellings = tables.spellings.items;
  targets = map (module_at (keys tables.modules)) tables.targets.items;
}

abbrev pub done : Result (Unit {0}) TraceFault → Tables → Result Gathered TraceFault
done (Ok unit) tables = Ok (before_of tables)
done (Err fault) tables = Err fault

abbrev pub traced_of : Result Tables TraceFault → Result Gathered TraceFault
traced_of result = shown_by before_of result
