use Rattle.trace_spec.specs.Modules.{Module}
use Rattle.trace_graph.specs.Links.{module_of}
use Rattle.request_trace.proofs.Lending.{field_some, field_none}
use Rattle.request_trace.proofs.traces.Trace.path.Goals as goal

pub returns-in-None : goal.returns-in-None
returns-in-None c = field_none module_of _ c.module.result c.module.ensures.module (λ (m : Module). m.path) c.in-None.is

pub returns-in-Some : goal.returns-in-Some
returns-in-Some c =
    field_some module_of _ c.module.result c.module.ensures.module (λ (m : Module). m.path) c.in-Some.module c.path.result.now c.in-Some.is c.path.ensures
