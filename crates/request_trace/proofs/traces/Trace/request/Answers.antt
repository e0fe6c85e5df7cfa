use Rattle.std.proofs.Common.{◌∙◌}
use Rattle.std.specs.Prelude.{option_copied, slice_get}
use Rattle.trace_spec.specs.Questions.{Source}
use Rattle.trace_graph.specs.Links.{source_of}
use Rattle.request_trace.proofs.Lending.{then_some, then_none, asked_same}
use Rattle.request_trace.proofs.traces.Trace.request.Goals as goal

pub returns-in-None : goal.returns-in-None
returns-in-None c =
    then_none source_of _ c.module.result c.module.ensures.source (λ (s : Source). slice_get s.specifiers c.args.number) c.in-None.is

pub returns-in-Some : goal.returns-in-Some
returns-in-Some c =
    then_some source_of _ c.module.result c.module.ensures.source (λ (s : Source). slice_get s.specifiers c.args.number) c.in-Some.module
    (option_copied c.request.result) c.in-Some.is (c.request.ensures ∙ asked_same c.in-Some.module c.args.number)
