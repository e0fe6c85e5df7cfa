use Rattle.std.proofs.Common.{◌≡◌, ◌-◌, length, drop, reverse, sym, ap, ◌∙◌, subst, arith}
use Rattle.std.specs.Prelude.{slice_get}
use Rattle.trace_graph.specs.Links.{IsLive}
use Rattle.graph_repair.specs.Plans.{AreAdded, AddsOne}
use Rattle.graph_repair.proofs.Joining.{added_at, none_added}
use Rattle.graph_repair.proofs.Led.{at_place}
use Rattle.graph_repair.proofs.parts.added_of.Goals as goal

pub add_missing-requires : goal.add_missing-requires
add_missing-requires c =
    subst (λ g. IsLive g c.slot_at.result) (sym c.view-view.ensures.graph)
    (at_place c.args.trace.now.slots (c.loop-place.place - 1) c.slot_at.result (IsLive c.args.trace.now.graph)
    (ap (λ ss. slice_get ss (c.loop-place.place - 1)) (sym c.slots-slots.ensures.slots) ∙ c.slot_at.ensures) c.slots-slots.ensures.linked.slots)

pub loop-place-init : goal.loop-place-init
loop-place-init c = record {
  within = omega arith;
  added = subst (λ more. AreAdded c.args.trace.now.graph (drop (length c.args.keeps.now) c.args.keeps.now) (drop (length c.args.keeps.now) c.slots-slots.result.now) (reverse more)) (sym c.new-added.ensures.items)
      (none_added c.args.trace.now.graph c.args.keeps.now c.slots-slots.result.now (length c.args.keeps.now) (omega arith));
}

pub loop-place-preserved : goal.loop-place-preserved
loop-place-preserved c = record {
  within = (let within = c.loop-place.invariant.within in omega (arith, within));
  added = added_at c.args.trace.now.graph c.args.keeps.now c.slots-slots.result.now (c.loop-place.place - 1) c.loop-place.place c.keep_at.result c.slot_at.result (reverse c.loop-place.added.items) (reverse c.add_missing.new.added.items)
      c.keep_at.ensures c.slot_at.ensures (let some = c.loop-place-test.true in omega (arith, some)) c.loop-place.invariant.added
      (subst (λ g. AddsOne g c.keep_at.result c.slot_at.result (reverse c.loop-place.added.items) (reverse c.add_missing.new.added.items)) c.view-view.ensures.graph c.in_ok-add_missing.ensures);
}

pub returns : goal.returns
returns c =
    let none : c.loop-place.place ≡ 0 = (let past = c.loop-place-test.false in omega (arith, past)) in
    subst (λ slots. AreAdded c.args.trace.now.graph c.args.keeps.now slots (reverse c.loop-place.added.items)) c.slots-slots.ensures.slots
    (subst (λ n. AreAdded c.args.trace.now.graph (drop n c.args.keeps.now) (drop n c.slots-slots.result.now) (reverse c.loop-place.added.items)) none c.loop-place.invariant.added)
