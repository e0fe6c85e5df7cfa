use Rattle.std.proofs.Common.{◌≡◌, ◌-◌, length, drop, reverse, sym, ap, ◌∙◌, subst, arith, []}
use Rattle.std.proofs.lemmas.List.{drop_all}
use Rattle.std.specs.HashMap as map
use Rattle.trace_spec.specs.Modules.{is_module}
use Rattle.slot_arena.specs.Slots.{value_at}
use Rattle.graph_repair.specs.Finding.{IsFound, Keeps}
use Rattle.graph_repair.proofs.FoundModules.{nothing_yet, found_at}
use Rattle.graph_repair.proofs.matching.find_kept.Goals as goal

pub loop-place-init : goal.loop-place-init
loop-place-init c = record {
  within = omega arith;
  found = subst (λ rest. IsFound c.args.shown.now c.args.own.now c.args.trace.now.graph rest c.in_ok-left.left.items (reverse c.new-keeps.result.items))
      (sym (drop_all (length c.slots-slots.result.now) c.slots-slots.result.now (omega arith)))
      (subst (λ ks. IsFound c.args.shown.now c.args.own.now c.args.trace.now.graph [] c.in_ok-left.left.items (reverse ks)) (sym c.new-keeps.ensures.items)
      (nothing_yet c.args.shown.now c.args.own.now c.args.trace.now.graph c.in_ok-left.left.items c.in_ok-left.ensures c.requires.apart c.requires.live));
}

pub loop-place-preserved : goal.loop-place-preserved
loop-place-preserved c = record {
  within = (let within = c.loop-place.invariant.within in omega (arith, within));
  found = found_at c.args.shown.now c.args.own.now c.args.trace.now.graph (map.get is_module c.in_ok-table.table) c.in_ok-table.ensures c.slots-slots.result.now (c.loop-place.place - 1) c.loop-place.place c.slot_at.result
      c.loop-place.left.items c.keep.new.left.items c.loop-place.keeps.items c.push.new.self.items c.in_ok-keep.field-0 c.slot_at.ensures (let some = c.loop-place-test.true in omega (arith, some)) c.loop-place.invariant.found
      (subst (λ g. Keeps c.args.shown.now (map.get is_module c.in_ok-table.table) (value_at g c.slot_at.result) c.loop-place.left.items c.keep.new.left.items c.in_ok-keep.field-0) c.view-view.ensures.graph c.in_ok-keep.ensures)
      c.in_ok-push.ensures.items;
}

pub returns : goal.returns
returns c =
    let none : c.loop-place.place ≡ 0 = (let past = c.loop-place-test.false in omega (arith, past)) in
    subst (λ ks. IsFound c.args.shown.now c.args.own.now c.args.trace.now.graph c.args.trace.now.slots c.loop-place.left.items ks) (sym c.reverse.ensures.items)
    (subst (λ rest. IsFound c.args.shown.now c.args.own.now c.args.trace.now.graph rest c.loop-place.left.items (reverse c.loop-place.keeps.items))
    (ap (λ n. drop n c.slots-slots.result.now) none ∙ c.slots-slots.ensures.slots) c.loop-place.invariant.found)
