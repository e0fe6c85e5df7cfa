use Rattle.std.proofs.Common.{◌≡◌, ◌≤◌, length, ap, refl, subst, arith}
use Rattle.slot_arena.specs.Slots.{with_places}
use Rattle.slot_arena.specs.Counts.{spare, wanted}
use Rattle.graph_repair.proofs.PlannedParts.{begun_few, begun_so, resized}
use Rattle.graph_repair.proofs.planning.begun.Goals as goal

pub reserve-requires : goal.reserve-requires
reserve-requires c =
    let none = ap length c.new-graph.ensures in let few : length c.args.trace.now.slots ≤ 20000 = c.requires.few in let count = c.len-count.ensures in omega (arith, none, few, count)

pub returns : goal.returns
returns c = record {
  graph = c.reserve.new.self;
  begun = refl;
  few = begun_few c.new-graph.result c.reserve.new.self (length c.args.trace.now.slots) c.new-graph.ensures c.requires.few
      (subst (λ n. c.reserve.new.self ≡ with_places c.new-graph.result (wanted (spare c.new-graph.result) n)) c.len-count.ensures c.in_ok-reserve.ensures.ok);
  ready = begun_so c.new-graph.result c.reserve.new.self c.args.trace.now c.resize.new.self.items c.new.result.items c.in_ok-parts_of.field-0 c.new-graph.ensures
      (subst (λ n. c.reserve.new.self ≡ with_places c.new-graph.result (wanted (spare c.new-graph.result) n)) c.len-count.ensures c.in_ok-reserve.ensures.ok)
      (resized c.len-count.result (length c.args.trace.now.slots) _ c.new-keeps.result.items c.resize.new.self.items c.in_ok-resize.ensures.items c.new-keeps.ensures.items c.new-keeps.ensures.len c.len-count.ensures)
      c.new.ensures.items c.in_ok-parts_of.ensures.gone c.in_ok-parts_of.ensures.keeps c.in_ok-parts_of.ensures.modules c.in_ok-parts_of.ensures.added c.in_ok-parts_of.ensures.leads c.in_ok-parts_of.ensures.room;
}
