use Rattle.std.proofs.Common.{◌≡◌, ◌<◌, List, length, map, sym, subst, arith}
use Rattle.std.specs.Prelude.{All}
use Rattle.slot_arena.specs.declared.slot.Slot.{Slot}
use Rattle.module_graph.specs.Many.{AreApart, AreLive, ConnectsAll, slot_in}
use Rattle.trace_graph.specs.Links.{Links}
use Rattle.graph_repair.specs.Plans.{IsReady}
use Rattle.graph_repair.proofs.Repairing.{Called, called_of, live_behind, apart_behind, within_behind, repaired}
use Rattle.graph_repair.proofs.repair.repair.Goals as goal
use Rattle.graph_repair.proofs.repair.repair.Goals.{After-filled_in-slots}

pub add_all-requires-clause-spare : goal.add_all-requires-clause-spare
add_all-requires-clause-spare c =
    let few = c.requires.1.has_spare in let freed = c.remove_all.ensures.freed in let kept = c.args.parts.added.ok.0 in omega (arith, few, freed, kept)

pub add_all-requires-clause-well_made : goal.add_all-requires-clause-well_made
add_all-requires-clause-well_made c = c.requires.1.added_well

called : (c : After-filled_in-slots) (l : Links) → IsReady c.args.graph.now l c.args.parts
    → Called c.args.graph.now c.remove_all.new.self c.add_all.new.self l c.args.parts c.add_all.new.slots.items c.filled_in-slots.result.items
called c l ready =
    called_of c.args.graph.now c.remove_all.new.self c.add_all.new.self l c.args.parts c.add_all.new.slots.items c.deref.result.now c.filled_in-slots.result.items c.deref-3.result.now c.deref-2.result.now
    ready c.remove_all.ensures c.deref.ensures.value c.add_all.ensures c.filled_in-slots.ensures c.deref-2.ensures.value c.deref-3.ensures.value

pub connect_all-requires-clause-live : goal.connect_all-requires-clause-live
connect_all-requires-clause-live c =
    let all = called (goal.at.connect_all-requires-clause-live c).After-filled_in-slots c.requires.0 c.requires.1 in
    let slots : c.deref-4.result.now ≡ c.filled_in-slots.result.items = c.deref-4.ensures.value in
    let leads : c.deref-5.result.now ≡ c.args.parts.leads.items = c.deref-5.ensures.value in
    subst (λ (ss : List Slot). AreLive c.add_all.new.self ss (length c.deref-5.result.now)) (sym slots)
    (subst (λ ls. AreLive c.add_all.new.self c.filled_in-slots.result.items (length ls)) (sym leads) (live_behind _ _ _ _ _ _ _ all))

pub connect_all-requires-clause-apart : goal.connect_all-requires-clause-apart
connect_all-requires-clause-apart c =
    let all = called (goal.at.connect_all-requires-clause-apart c).After-filled_in-slots c.requires.0 c.requires.1 in
    let slots : c.deref-4.result.now ≡ c.filled_in-slots.result.items = c.deref-4.ensures.value in
    subst AreApart (sym slots) (apart_behind _ _ _ _ _ _ _ all)

pub connect_all-requires-clause-within : goal.connect_all-requires-clause-within
connect_all-requires-clause-within c =
    let all = called (goal.at.connect_all-requires-clause-within c).After-filled_in-slots c.requires.0 c.requires.1 in
    let slots : c.deref-4.result.now ≡ c.filled_in-slots.result.items = c.deref-4.ensures.value in
    let leads : c.deref-5.result.now ≡ c.args.parts.leads.items = c.deref-5.ensures.value in
    subst (λ (ss : List Slot). All (λ lead. lead < length ss) c.deref-5.result.now) (sym slots)
    (subst (All (λ lead. lead < length c.filled_in-slots.result.items)) (sym leads) (within_behind _ _ _ _ _ _ _ all))

pub returns : goal.returns
returns c = λ l ready.
    let all = called (goal.at.returns c).After-filled_in-slots l ready in
    let slots : c.deref-4.result.now ≡ c.filled_in-slots.result.items = c.deref-4.ensures.value in
    let leads : c.deref-5.result.now ≡ c.args.parts.leads.items = c.deref-5.ensures.value in
    repaired _ _ _ _ _ _ _ all c.connect_all.new.self
    (subst (λ ls. ConnectsAll c.add_all.new.self c.connect_all.new.self c.filled_in-slots.result.items (map (slot_in c.filled_in-slots.result.items) ls)) leads
    (subst (λ (ss : List Slot). ConnectsAll c.add_all.new.self c.connect_all.new.self ss (map (slot_in ss) c.deref-5.result.now)) slots c.connect_all.ensures))
