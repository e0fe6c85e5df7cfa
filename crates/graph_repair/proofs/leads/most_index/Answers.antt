use Rattle.std.proofs.Common.{◌<◌, sym, subst, arith}
use Rattle.std.specs.Prelude.{All}
use Rattle.std.proofs.lemmas.List.Elements.{All-nil, All-cons}
use Rattle.module_graph.proofs.Many.{no_slots}
use Rattle.slot_arena.specs.declared.slot.Slot.{Slot}
use Rattle.graph_repair.proofs.leads.most_index.Goals as goal

pub loop-slot-init : goal.loop-slot-init
loop-slot-init c = λ bound least all. all

pub loop-slot-preserved : goal.loop-slot-preserved
loop-slot-preserved c = λ bound least all.
    c.loop-slot.invariant bound (let more = c.above-most.ensures.no_less in omega (arith, more, least))
    (subst (All (λ (s : Slot). s.index < bound)) (sym c.in-Some.ensures.cases.0)
    (All-cons (λ (s : Slot). s.index < bound) c.in-Some.slot.now c.in-Some.more.now (let here = c.above-most.ensures.above in omega (arith, here, least)) all))

pub returns : goal.returns
returns c =
    c.loop-slot.invariant c.loop-slot.most (omega arith)
    (subst (All (λ (s : Slot). s.index < c.loop-slot.most)) (sym (no_slots c.loop-slot.rest.now c.in_default.ensures.cases)) (All-nil (λ (s : Slot). s.index < c.loop-slot.most)))
