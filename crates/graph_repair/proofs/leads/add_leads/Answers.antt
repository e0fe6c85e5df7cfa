use Rattle.std.proofs.Common.{◌≡◌, ◌++◌, OnOk, map, sym, ap, ◌∙◌, subst, append-nil}
use Rattle.trace_graph.specs.Links.{targets_in}
use Rattle.graph_repair.specs.Leads.{place_in}
use Rattle.graph_repair.proofs.leads.add_leads.Goals as goal

pub returns-in-Some : goal.returns-in-Some
returns-in-Some c =
    subst (λ ts. OnOk c.add_targets.result (c.add_targets.new.leads.items ≡ c.args.leads.now.items ++ map (place_in c.args.places.now.items) ts))
    (ap targets_in (sym c.in-Some.is ∙ c.module.ensures)) c.add_targets.ensures

pub returns-in-None : goal.returns-in-None
returns-in-None c =
    sym (append-nil c.args.leads.now.items)
    ∙ ap (λ ts. c.args.leads.now.items ++ map (place_in c.args.places.now.items) ts) (ap targets_in (sym c.in-None.is ∙ c.module.ensures))
