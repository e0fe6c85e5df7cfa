use Rattle.std.proofs.Common.{◌≡◌, ◌<◌, ◌++◌, ◌∷◌, [], length, map, sym, ap, ◌∙◌, subst, arith, append-nil, append_assoc}
use Rattle.std.specs.Prelude.{All}
use Rattle.std.proofs.lemmas.List.Elements.{All-head, All-tail}
use Rattle.module_graph.specs.Many.{slot_in}
use Rattle.trace_graph.proofs.Linking.{no_places}
use Rattle.trace_graph.proofs.building.slots_at.Goals as goal

pub loop-place-init : goal.loop-place-init
loop-place-init c = record {
  found = ap (λ found. found ++ map (slot_in c.args.slots.now) c.args.places.now) c.in_ok-found.ensures.items;
  within = c.requires;
  room = (let a = c.in_ok-found.ensures.len in let b = c.in_ok-found.ensures.capacity in omega (arith, a, b));
}

pub slot_at-requires : goal.slot_at-requires
slot_at-requires c =
    All-head (λ place. place < length c.args.slots.now) c.in-Some.place.now c.in-Some.more.now
    (subst (All (λ place. place < length c.args.slots.now)) c.in-Some.ensures.cases.0 c.loop-place.invariant.within)

pub push_reserved-requires : goal.push_reserved-requires
push_reserved-requires c =
    let one = ap length c.in-Some.ensures.cases.0 in let room = c.loop-place.invariant.room in omega (arith, one, room)

pub loop-place-preserved : goal.loop-place-preserved
loop-place-preserved c =
    let is : c.loop-place.rest.now ≡ c.in-Some.place.now ∷ c.in-Some.more.now = c.in-Some.ensures.cases.0 in
    let found = c.loop-place.found.items in
    record {
      found = ap (λ all. all ++ map (slot_in c.args.slots.now) c.in-Some.more.now) c.push_reserved.ensures.items
          ∙ (append_assoc found (c.slot_at.result ∷ []) (map (slot_in c.args.slots.now) c.in-Some.more.now)
          ∙ (ap (λ s. found ++ s ∷ map (slot_in c.args.slots.now) c.in-Some.more.now) c.slot_at.ensures
          ∙ (ap (λ rest. found ++ map (slot_in c.args.slots.now) rest) (sym is) ∙ c.loop-place.invariant.found)));
      within = All-tail (λ place. place < length c.args.slots.now) c.in-Some.place.now c.in-Some.more.now
          (subst (All (λ place. place < length c.args.slots.now)) is c.loop-place.invariant.within);
      room = (let one = ap length is in let len = c.push_reserved.ensures.len in let capacity = c.push_reserved.ensures.capacity in let room = c.loop-place.invariant.room in omega (arith, one, len, capacity, room));
    }

pub returns : goal.returns
returns c =
    let none = no_places c.loop-place.rest.now c.in_default.ensures.cases in
    sym (append-nil c.loop-place.found.items)
    ∙ (ap (λ rest. c.loop-place.found.items ++ map (slot_in c.args.slots.now) rest) (sym none) ∙ c.loop-place.invariant.found)
