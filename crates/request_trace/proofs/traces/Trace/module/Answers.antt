use Rattle.std.proofs.Common.{◌∙◌, sym, ap}
use Rattle.std.specs.Prelude.{slice_get}
use Rattle.request_trace.specs.Showing.{Traced}
use Rattle.request_trace.proofs.traces.Trace.module.Goals as goal

pub returns-clause-module : goal.returns-clause-module
returns-clause-module c =
    sym (c.module.ensures.module ∙ ap (λ (t : Traced). slice_get t.gathered.modules c.args.place) c.self.view_is)

pub returns-clause-source : goal.returns-clause-source
returns-clause-source c =
    sym (c.module.ensures.source ∙ ap (λ (t : Traced). slice_get t.gathered.sources c.args.place) c.self.view_is)
