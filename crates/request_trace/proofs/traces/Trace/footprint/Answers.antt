use Rattle.std.proofs.Common.{ap, ◌∙◌}
use Rattle.request_trace.specs.Showing.{Traced}
use Rattle.request_trace.proofs.traces.Trace.footprint.Goals as goal

pub returns : goal.returns
returns c = c.paths.ensures ∙ ap (λ (t : Traced). t.footprint) c.self.view_is
