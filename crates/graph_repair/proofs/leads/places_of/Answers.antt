use Rattle.std.proofs.Common.{◌≡◌, ◌<◌, length, ap, sym, subst, arith, length-set}
use Rattle.std.specs.Prelude.{All}
use Rattle.std.proofs.lemmas.Option.{slice_get_within}
use Rattle.slot_arena.specs.declared.slot.Slot.{Slot}
use Rattle.graph_repair.proofs.Led.{at_place, set_more}
use Rattle.graph_repair.proofs.leads.places_of.Goals as goal

pub set_place-requires : goal.set_place-requires
set_place-requires c =
    at_place c.args.slots.now c.loop-place.place c.slot_at.result (λ (s : Slot). s.index < length c.loop-place.places.items) c.slot_at.ensures c.loop-place.invariant.within

pub loop-place-init : goal.loop-place-init
loop-place-init c = record {
  within = (let many : length c.resize.new.self.items ≡ c.most_index.result = (let len = c.in_ok-resize.ensures.len in let kept = c.resize.new.self.ok.0 in omega (arith, len, kept)) in subst (λ n. All (λ (s : Slot). s.index < n) c.args.slots.now) (sym many) c.most_index.ensures);
  placed = λ own i t below at. absurd (omega (arith, below));
}

pub loop-place-preserved : goal.loop-place-preserved
loop-place-preserved c = record {
  within = (let many = ap length c.set_place.ensures in
      let same = length-set c.loop-place.places.items c.slot_at.result.index c.loop-place.place in
      let kept : length c.set_place.new.places.items ≡ length c.loop-place.places.items = omega (arith, many, same) in
      subst (λ n. All (λ (s : Slot). s.index < n) c.args.slots.now) (sym kept) c.loop-place.invariant.within);
  placed = set_more c.args.slots.now c.loop-place.places.items c.set_place.new.places.items c.loop-place.place c.slot_at.result c.slot_at.ensures
      (at_place c.args.slots.now c.loop-place.place c.slot_at.result (λ (s : Slot). s.index < length c.loop-place.places.items) c.slot_at.ensures c.loop-place.invariant.within)
      c.set_place.ensures c.loop-place.invariant.placed;
}

pub returns : goal.returns
returns c = λ own i s at.
    c.loop-place.invariant.placed own i s
    (let within = slice_get_within c.args.slots.now i s at in omega (arith, within, c.loop-place-test.false)) at
