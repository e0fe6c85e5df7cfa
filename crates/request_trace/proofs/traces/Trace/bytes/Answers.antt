use Rattle.trace_spec.specs.Questions.{Source}
use Rattle.trace_graph.specs.Links.{source_of}
use Rattle.request_trace.proofs.Lending.{field_some, field_none}
use Rattle.request_trace.proofs.traces.Trace.bytes.Goals as goal

pub returns-in-None : goal.returns-in-None
returns-in-None c = field_none source_of _ c.module.result c.module.ensures.source (λ (m : Source). m.bytes) c.in-None.is

pub returns-in-Some : goal.returns-in-Some
returns-in-Some c =
    field_some source_of _ c.module.result c.module.ensures.source (λ (m : Source). m.bytes) c.in-Some.module c.source.result.now c.in-Some.is c.source.ensures
