use Rattle.std.proofs.Common.{subst}
use Rattle.layout_spec.specs.Needs.{NoClash}
use Rattle.request_trace.specs.Showing.{Traced}
use Rattle.trace_walk.specs.Walking.{AreOfUrls}
use Rattle.request_trace.proofs.traces.Trace.needs.Goals as goal

pub returns-clause-clear : goal.returns-clause-clear
returns-clause-clear c = subst (λ (t : Traced). NoClash t.gathered.needs) c.self.view_is c.self.invariant.whole.clear

pub returns-clause-urls : goal.returns-clause-urls
returns-clause-urls c = subst (λ (t : Traced). AreOfUrls t.gathered.needs) c.self.view_is c.self.invariant.whole.urls
