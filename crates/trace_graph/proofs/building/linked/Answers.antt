use Rattle.std.proofs.Common.{◌≡◌, ◌≤◌, ◌++◌, List, [], map, reverse, sym, ap, ◌∙◌, subst, arith}
use Rattle.std.specs.Prelude.{vec_len}
use Rattle.slot_arena.specs.declared.slot.Slot.{Slot}
use Rattle.module_graph.specs.Many.{AddsAll, ConnectsAll, slot_in}
use Rattle.trace_graph.proofs.Linking.{spare_enough, linked_by}
use Rattle.trace_graph.proofs.building.linked.Goals as goal

pub add_all-requires-clause-spare : goal.add_all-requires-clause-spare
add_all-requires-clause-spare c =
    let enough = spare_enough c.new-graph.result c.reserve.new.self _ c.in_ok-reserve.ensures.ok in
    let count = c.len-count.ensures in
    let few : vec_len c.args.modules ≤ 20000 = c.requires.few in
    omega (arith, enough, count, few)

pub returns : goal.returns
returns c =
    let none : c.in_ok-slots.slots.items ≡ [] = c.in_ok-slots.ensures.items in
    let slots : c.add_all.new.slots.items ≡ c.add_all.ensures.0 = c.add_all.ensures.1 ∙ ap (λ front. front ++ c.add_all.ensures.0) none in
    let adds : AddsAll c.reserve.new.self c.add_all.new.self (reverse c.args.modules.items) c.add_all.new.slots.items =
    subst (λ (ss : List Slot). AddsAll c.reserve.new.self c.add_all.new.self (reverse c.args.modules.items) ss) (sym slots) c.add_all.ensures.2 in
    let connects : ConnectsAll c.add_all.new.self c.connect_all.new.self c.add_all.new.slots.items (map (slot_in c.add_all.new.slots.items) c.args.leads.now) =
    subst (λ (ss : List Slot). ConnectsAll c.add_all.new.self c.connect_all.new.self ss (map (slot_in ss) c.args.leads.now)) c.deref.ensures.value c.connect_all.ensures in
    linked_by c.new-graph.result c.reserve.new.self c.add_all.new.self c.connect_all.new.self _ c.add_all.new.slots.items (reverse c.args.modules.items) c.args.leads.now
    c.new-graph.ensures c.in_ok-reserve.ensures.ok adds connects
