use Rattle.std.proofs.Common.{◌≡◌, ◌<◌, ◌+◌, ℕ, List, length, reverse, sym, ap, ◌∙◌, subst, arith}
use Rattle.std.specs.Prelude.{All, vec_len}
use Rattle.std.specs.Map.{keys_of}
use Rattle.std.proofs.lemmas.List.{length-map}
use Rattle.module_sources.specs.Shown as walk
use Rattle.trace_graph.specs.Building.{IsGraphOf}
use Rattle.trace_spec.specs.Modules.{Module}
use Rattle.trace_walk.specs.Shown.{module_at}
use Rattle.trace_walk.specs.Walking.{module_requests}
use Rattle.trace_walk.specs.declared.tables.Name.{Name}
use Rattle.request_trace.specs.Showing.{IsTraceAt}
use Rattle.request_trace.proofs.JoinedTables.{as_many, requests_counted, tables_are}
use Rattle.request_trace.proofs.NamedModules.{names_at}
use Rattle.request_trace.proofs.traces.Trace.of.Goals as goal

pub join-requires-clause-beside : goal.join-requires-clause-beside
join-requires-clause-beside c =
    sym (length-map c.args.tables.sources.items walk.source_of)
    ∙ (c.requires.whole.visited ∙ length-map c.args.tables.modules.entries (λ (e : Module × Name). e.0))

pub join-requires-clause-inside : goal.join-requires-clause-inside
join-requires-clause-inside c = c.requires.beside.inside

pub of-requires-clause-few : goal.of-requires-clause-few
of-requires-clause-few c =
    let many = as_many c.in_ok-parts.parts.vertices.items (keys_of c.args.tables.modules.entries) c.in_ok-parts.ensures.modules_are in
    let kept = c.in_ok-parts.parts.vertices.ok.0 in
    let few = c.requires.whole.few in
    omega (arith, many, kept, few)

pub of-requires-clause-each : goal.of-requires-clause-each
of-requires-clause-each c =
    ap length c.deref.ensures.value
    ∙ (c.requires.counted
    ∙ ap (λ n. c.args.entries + n)
    (ap module_requests (sym c.in_ok-parts.ensures.sources_are) ∙ requests_counted (reverse c.in_ok-parts.parts.vertices.items)))

pub of-requires-clause-within : goal.of-requires-clause-within
of-requires-clause-within c =
    let many = as_many c.in_ok-parts.parts.vertices.items (keys_of c.args.tables.modules.entries) c.in_ok-parts.ensures.modules_are in
    let kept = c.in_ok-parts.parts.vertices.ok.0 in
    let keys = length-map c.args.tables.modules.entries (λ (e : Module × Name). e.0) in
    let same : length c.args.tables.modules.entries ≡ vec_len c.in_ok-parts.parts.vertices = omega (arith, many, kept, keys) in
    subst (All (λ lead. lead < vec_len c.in_ok-parts.parts.vertices)) (sym c.deref.ensures.value)
    (subst (λ n. All (λ lead. lead < n) c.args.tables.targets.items) same c.requires.beside.placed)

pub invariant_of-result : goal.invariant_of-result
invariant_of-result c =
    let joined = c.in_ok-parts.ensures in
    let shows = subst (λ (leads : List ℕ). IsGraphOf (reverse c.in_ok-parts.parts.vertices.items) leads c.in_ok-graph.graph) c.deref.ensures.value c.in_ok-graph.ensures.graph in
    subst (IsTraceAt c.args.base c.in_ok-parts.parts.names.items _)
    (sym (tables_are c.args.tables (reverse c.in_ok-parts.parts.vertices.items) c.in_ok-graph.graph joined.modules_are joined.sources_are shows))
    (record {
      whole = c.requires.whole;
      named = names_at c.args.base c.args.tables.modules.entries c.requires.named ∙ sym joined.names_are;
      counted = (let n = c.len.ensures in let kept = c.args.tables.targets.ok.0 in let same = length-map c.args.tables.targets.items (module_at (keys_of c.args.tables.modules.entries)) in omega (arith, n, kept, same));
    })

pub returns-clause-gathered : goal.returns-clause-gathered
returns-clause-gathered c =
    let shows = subst (λ (leads : List ℕ). IsGraphOf (reverse c.in_ok-parts.parts.vertices.items) leads c.in_ok-graph.graph) c.deref.ensures.value c.in_ok-graph.ensures.graph in
    tables_are c.args.tables (reverse c.in_ok-parts.parts.vertices.items) c.in_ok-graph.graph c.in_ok-parts.ensures.modules_are c.in_ok-parts.ensures.sources_are shows

pub returns-clause-entries : goal.returns-clause-entries
returns-clause-entries c = c.in_ok-graph.ensures.entries
