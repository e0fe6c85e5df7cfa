use Rattle.std.proofs.Common.{◌≤◌, ◌∙◌, length, sym, ap, subst}
use Rattle.tree_spec.specs.declared.LimitName.TheVariants.{Requests}
use Rattle.tree_spec.specs.Limits.{limit_number}
use Rattle.request_trace.specs.Showing.{Traced}
use Rattle.trace_graph.specs.Links.{sources_of}
use Rattle.trace_walk.specs.Walking.{module_requests}
use Rattle.request_trace.proofs.traces.Trace.request_count.Goals as goal

pub returns-clause-requests : goal.returns-clause-requests
returns-clause-requests c = c.self.invariant.counted ∙ ap (λ (t : Traced). length t.gathered.targets) c.self.view_is

pub returns-clause-few : goal.returns-clause-few
returns-clause-few c =
    subst (λ n. n ≤ limit_number Requests) (sym c.self.invariant.counted) c.self.invariant.whole.few_requests

pub returns-clause-of_modules : goal.returns-clause-of_modules
returns-clause-of_modules c =
    subst (λ (t : Traced). module_requests t.gathered.sources ≤ c.self.inside.requests) c.self.view_is
    (subst (λ n. module_requests (sources_of c.self.inside.graph) ≤ n) (sym c.self.invariant.counted) c.self.invariant.whole.counted)
