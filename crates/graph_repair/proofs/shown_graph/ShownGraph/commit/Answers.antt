use Rattle.std.proofs.Common.{◌≡◌, sym, ap, ◌∙◌, subst}
use Rattle.trace_graph.specs.Links.{Links, IsLinked}
use Rattle.graph_repair.specs.Plans.{IsReady, IsRepaired, base, shown}
use Rattle.graph_repair.proofs.PlannedParts.{repairs_by}
use Rattle.graph_repair.proofs.shown_graph.ShownGraph.commit.Goals as goal

pub repair-requires : goal.repair-requires
repair-requires c =
    let same : c.begin_anew.new.graph ≡ base c.args.self.now.graph c.args.plan.begun = c.begin_anew.ensures ∙ ap (λ (x : Links). base x.graph c.args.plan.begun) c.self.view_is in
    (c.requires.1, subst (λ g. IsReady g c.requires.1 c.args.plan.parts) (sym same) c.requires.2.ready)

pub invariant_of-self : goal.invariant_of-self
invariant_of-self c =
    let same : c.begin_anew.new.graph ≡ base c.args.self.now.graph c.args.plan.begun = c.begin_anew.ensures ∙ ap (λ (x : Links). base x.graph c.args.plan.begun) c.self.view_is in
    (c.repair.ensures c.requires.1 (subst (λ g. IsReady g c.requires.1 c.args.plan.parts) (sym same) c.requires.2.ready)).linked

pub returns-clause-repairs : goal.returns-clause-repairs
returns-clause-repairs c = λ made l planned.
    let same : c.begin_anew.new.graph ≡ base c.args.self.now.graph c.args.plan.begun = c.begin_anew.ensures ∙ ap (λ (x : Links). base x.graph c.args.plan.begun) c.self.view_is in
    repairs_by made c.args.self.now l c.args.plan (shown c.repair.new.graph c.repair.result.items) planned
    (subst (λ g. IsRepaired g l c.args.plan.parts (shown c.repair.new.graph c.repair.result.items)) same
    (c.repair.ensures l (subst (λ g. IsReady g l c.args.plan.parts) (sym same) planned.ready)))

pub returns-clause-linked : goal.returns-clause-linked
returns-clause-linked c = subst IsLinked c.self.view_is c.self.invariant
