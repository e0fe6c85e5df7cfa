use Rattle.std.proofs.Common.{◌∙◌, length, sym, ap, subst}
use Rattle.std.proofs.lemmas.List.{length-map}
use Rattle.request_trace.specs.Showing.{Traced}
use Rattle.trace_walk.specs.Walking.{IsWhole}
use Rattle.request_trace.proofs.NamedModules.{counted}
use Rattle.request_trace.proofs.traces.Trace.len.Goals as goal

pub returns : goal.returns
returns c =
    counted c.args.self.now.gathered c.len.result
    (c.len.ensures ∙ (sym (length-map _ _) ∙ ap (λ (t : Traced). length t.gathered.modules) c.self.view_is))
    (subst (λ (t : Traced). IsWhole t.gathered) c.self.view_is c.self.invariant.whole)
