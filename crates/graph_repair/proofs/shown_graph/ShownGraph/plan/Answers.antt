use Rattle.std.proofs.Common.{◌≡◌, List, length, sym, ap, subst, arith}
use Rattle.std.specs.Prelude.{All}
use Rattle.slot_arena.specs.Counts.{live}
use Rattle.slot_arena.specs.declared.slot.Slot.{Slot}
use Rattle.module_graph.specs.Many.{AreApart}
use Rattle.trace_graph.specs.Links.{Links, IsLive}
use Rattle.graph_repair.specs.declared.parts.Plan.{Plan}
use Rattle.graph_repair.specs.Finding.{IsFound}
use Rattle.graph_repair.specs.Plans.{IsPlanned, shown}
use Rattle.graph_repair.specs.Repairs.{ShowsSame}
use Rattle.graph_repair.proofs.Joining.{kept_count}
use Rattle.graph_repair.proofs.PlannedParts.{linked_moved, shows_itself, if_ok}
use Rattle.graph_repair.proofs.shown_graph.ShownGraph.plan.Goals as goal

pub find_kept-requires-clause-apart : goal.find_kept-requires-clause-apart
find_kept-requires-clause-apart c = subst AreApart (sym c.deref.ensures.value) c.self.invariant.apart

pub find_kept-requires-clause-live : goal.find_kept-requires-clause-live
find_kept-requires-clause-live c =
    subst (All (IsLive c.view.result)) (sym c.deref.ensures.value) (subst (λ g. All (IsLive g) c.self.inside.slots.items) (sym c.view.ensures.graph) c.self.invariant.slots)

pub returns-in_err-found-clause-same : goal.returns-in_err-found-clause-same
returns-in_err-found-clause-same c = shows_itself c.args.self.now

pub plan_of-requires-clause-modules : goal.plan_of-requires-clause-modules
plan_of-requires-clause-modules c = c.view.ensures.modules

pub plan_of-requires-clause-each : goal.plan_of-requires-clause-each
plan_of-requires-clause-each c = kept_count c.view.result c.args.trace.now.graph c.in_ok-found.found.keeps.items c.args.trace.now.slots c.in_ok-found.ensures.kept

pub invariant_of-self : goal.invariant_of-self
invariant_of-self c = linked_moved c.self.inside.graph c.plan_of.new.graph c.self.inside.slots.items (c.plan_of.ensures.same c.self.inside.slots.items) c.self.invariant

pub returns-clause-same : goal.returns-clause-same
returns-clause-same c =
    subst (λ (l : Links). ShowsSame l (shown c.plan_of.new.graph c.self.inside.slots.items)) c.self.view_is (c.plan_of.ensures.same c.self.inside.slots.items)

pub returns-clause-planned : goal.returns-clause-planned
returns-clause-planned c =
    let found = subst (λ g. IsFound g c.self.inside.slots.items c.args.trace.now.graph c.args.trace.now.slots c.in_ok-found.found.left.items c.in_ok-found.found.keeps.items) c.view.ensures.graph
    (subst (λ (slots : List Slot). IsFound c.view.result slots c.args.trace.now.graph c.args.trace.now.slots c.in_ok-found.found.left.items c.in_ok-found.found.keeps.items) c.deref.ensures.value c.in_ok-found.ensures) in
    if_ok c.plan_of.result
    (λ (plan : Plan). (slots : List Slot) → IsFound c.self.inside.graph slots c.args.trace.now.graph c.args.trace.now.slots c.in_ok-found.found.left.items c.in_ok-found.found.keeps.items → live c.self.inside.graph ≡ length slots → IsPlanned (length c.self.inside.graph) (shown c.plan_of.new.graph slots) c.args.trace.now plan)
    (IsPlanned (length c.args.self.now.graph) (shown c.plan_of.new.graph c.self.inside.slots.items) c.args.trace.now)
    c.plan_of.ensures.planned
    (λ plan next. subst (λ (l : Links). IsPlanned (length l.graph) (shown c.plan_of.new.graph c.self.inside.slots.items) c.args.trace.now plan) c.self.view_is (next c.self.inside.slots.items found c.self.invariant.alone))

pub returns-in_err-found-clause-few : goal.returns-in_err-found-clause-few
returns-in_err-found-clause-few c = omega arith

pub returns-clause-few : goal.returns-clause-few
returns-clause-few c =
    let few = c.plan_of.ensures.few in let same = ap (λ (l : Links). length l.graph) c.self.view_is in omega (arith, few, same)
