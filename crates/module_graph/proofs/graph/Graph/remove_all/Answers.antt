use Rattle.std.proofs.Common.{sym, subst}
use Rattle.module_graph.specs.Many.{RemovesAll}
use Rattle.module_graph.proofs.Many.{no_slots, removes_none, removes_one}
use Rattle.module_graph.proofs.graph.Graph.remove_all.Goals as goal

pub loop-at-init : goal.loop-at-init
loop-at-init c = λ new removes. removes

pub loop-at-preserved : goal.loop-at-preserved
loop-at-preserved c = λ new removes.
    c.loop-at.invariant new
    (subst (RemovesAll c.loop-at.self new) (sym c.in-Some.ensures.cases.0)
    (removes_one c.loop-at.self c.remove.new.self new c.in-Some.at.now c.in-Some.more.now c.remove.result c.remove.ensures.value c.remove.ensures.left removes))

pub returns : goal.returns
returns c = c.loop-at.invariant c.loop-at.self (subst (RemovesAll c.loop-at.self c.loop-at.self) (sym (no_slots c.loop-at.rest.now c.in_default.ensures.cases)) (removes_none c.loop-at.self))
