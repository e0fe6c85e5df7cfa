use Rattle.std.proofs.Common.{◌≡◌, ◌++◌, ◌∷◌, length, ap, subst, arith}
use Rattle.graph_repair.specs.Matching.{missing, filled}
use Rattle.graph_repair.proofs.Filling.{next_enough, one_is_enough, filled_more, none_left}
use Rattle.graph_repair.proofs.repair.filled_in.Goals as goal

pub loop-keep-init : goal.loop-keep-init
loop-keep-init c = record {
  filled_so = ap (λ slots. slots ++ filled c.args.keeps.now c.args.given.now) c.requires.none;
  enough = c.requires.enough;
  room = (let none = ap length c.requires.none in let room = c.requires.room in let kept = c.args.empty.ok.0 in omega (arith, none, room, kept));
}

pub next_slot-requires : goal.next_slot-requires
next_slot-requires c =
    one_is_enough c.in-Some.keep.now c.in-Some.more.now c.loop-keep.left.now
    (subst (λ rest. missing rest ≡ length c.loop-keep.left.now) c.in-Some.ensures.cases.0 c.loop-keep.invariant.enough)

pub push_reserved-requires : goal.push_reserved-requires
push_reserved-requires c =
    let one = ap length c.in-Some.ensures.cases.0 in let room = c.loop-keep.invariant.room in omega (arith, one, room)

pub loop-keep-preserved : goal.loop-keep-preserved
loop-keep-preserved c =
    let is : c.loop-keep.rest.now ≡ c.in-Some.keep.now ∷ c.in-Some.more.now = c.in-Some.ensures.cases.0 in
    record {
      filled_so = filled_more c.loop-keep.slots.items c.push_reserved.new.self.items c.loop-keep.left.now c.next_slot.result.1.now _ c.in-Some.keep.now c.in-Some.more.now c.next_slot.result.0
          c.next_slot.ensures c.push_reserved.ensures.items
          (subst (λ rest. c.loop-keep.slots.items ++ filled rest c.loop-keep.left.now ≡ filled c.args.keeps.now c.args.given.now) is c.loop-keep.invariant.filled_so);
      enough = next_enough c.in-Some.keep.now c.in-Some.more.now c.loop-keep.left.now c.next_slot.result.1.now c.next_slot.result.0 c.next_slot.ensures
          (subst (λ rest. missing rest ≡ length c.loop-keep.left.now) is c.loop-keep.invariant.enough);
      room = (let one = ap length is in let len = c.push_reserved.ensures.len in let capacity = c.push_reserved.ensures.capacity in let room = c.loop-keep.invariant.room in omega (arith, one, len, capacity, room));
    }

pub returns : goal.returns
returns c = none_left c.loop-keep.slots.items c.loop-keep.left.now _ c.loop-keep.rest.now c.in_default.ensures.cases c.loop-keep.invariant.filled_so
