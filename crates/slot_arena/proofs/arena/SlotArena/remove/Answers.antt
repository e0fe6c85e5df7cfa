use Rattle.std.proofs.Common.{◌≡◌, None, IsSome, get_or, slice_set, sym, ap, ◌∙◌, subst, arith, length-set}
use Rattle.slot_arena.specs.Slots.{place, value_at}
use Rattle.slot_arena.specs.Counts.{fullness_of}
use Rattle.slot_arena.specs.Kept.{paired}
use Rattle.slot_arena.proofs.Paired.{found, length-filled, length-paired, paired-put}
use Rattle.slot_arena.proofs.PlaceLemmas.{get_or-any, live-some, spare_live-le}
use Rattle.slot_arena.proofs.Fields.{fields-freed, fields-retired}
use Rattle.slot_arena.proofs.arena.SlotArena.remove.Goals as goal

pub take-value-requires : goal.take-value-requires
take-value-requires g c =
    let vs = c.self.inside.places in let ns = c.self.inside.next.items in let s = c.args.at in let i = s.index in
    let long = c.self.invariant.0 in let k = c.self.invariant.1 in
    let f = found vs ns s long (subst (λ a. IsSome (value_at a s)) (sym c.self.view_is) (c.is_live.ensures.0 c.if-not-is_live.false)) in
    (f.value, f.filled)

pub overflow_sub-self : goal.overflow_sub-self
overflow_sub-self g c =
    let vs = c.self.inside.places in let ns = c.self.inside.next.items in let s = c.args.at in let i = s.index in
    let long = c.self.invariant.0 in let k = c.self.invariant.1 in
    let f = found vs ns s long (subst (λ a. IsSome (value_at a s)) (sym c.self.view_is) (c.is_live.ensures.0 c.if-not-is_live.false)) in
    omega (arith, k.all_live, live-some (paired vs ns) i (omega (arith, length-filled vs i f.value f.filled, length-paired vs ns long)), ap fullness_of f.there)

pub index-requires : goal.index-requires
index-requires g c =
    let vs = c.self.inside.places in let ns = c.self.inside.next.items in let s = c.args.at in let i = s.index in
    let long = c.self.invariant.0 in let k = c.self.invariant.1 in
    let f = found vs ns s long (subst (λ a. IsSome (value_at a s)) (sym c.self.view_is) (c.is_live.ensures.0 c.if-not-is_live.false)) in
    omega (arith, length-filled vs i f.value f.filled, long, c.self.inside.next.ok.0)

pub push_reserved-requires : goal.push_reserved-requires
push_reserved-requires g c =
    let vs = c.self.inside.places in let ns = c.self.inside.next.items in let s = c.args.at in let i = s.index in
    let long = c.self.invariant.0 in let k = c.self.invariant.1 in
    let f = found vs ns s long (subst (λ a. IsSome (value_at a s)) (sym c.self.view_is) (c.is_live.ensures.0 c.if-not-is_live.false)) in
    let some = live-some (paired vs ns) i (omega (arith, length-filled vs i f.value f.filled, length-paired vs ns long)) in
    omega (arith, k.all_spare, k.has_room, spare_live-le (paired vs ns), some, ap fullness_of f.there, c.self.inside.free.ok.0)

pub invariant_of-self : goal.invariant_of-self
invariant_of-self g c =
    let vs = c.self.inside.places in let ns = c.self.inside.next.items in let s = c.args.at in let i = s.index in
    let long = c.self.invariant.0 in let k = c.self.invariant.1 in
    let f = found vs ns s long (subst (λ a. IsSome (value_at a s)) (sym c.self.view_is) (c.is_live.ensures.0 c.if-not-is_live.false)) in
    let n = c.index.result.now in let same : n ≡ get_or ns i 0 = c.index.ensures ∙ get_or-any ns i n 0 (omega (arith, length-filled vs i f.value f.filled, long)) in
    rw c.take-value.ensures.left (rw c.push_reserved.ensures.items (rw c.push_reserved.ensures.capacity (
      long ∙ sym (length-set vs i None),
      fields-freed vs ns long c.self.inside.free.items i f.value f.filled (omega (arith, same, c.if-index-lt-SPENT.true)) k,
    )))

pub returns-then-index-lt-SPENT-clause-value : goal.returns-then-index-lt-SPENT-clause-value
returns-then-index-lt-SPENT-clause-value g c =
    let vs = c.self.inside.places in let ns = c.self.inside.next.items in let s = c.args.at in let i = s.index in
    let long = c.self.invariant.0 in let k = c.self.invariant.1 in
    let f = found vs ns s long (subst (λ a. IsSome (value_at a s)) (sym c.self.view_is) (c.is_live.ensures.0 c.if-not-is_live.false)) in
    rw (← c.self.view_is) (sym c.take-value.ensures.value ∙ f.filled ∙ sym f.is)

pub returns-then-index-lt-SPENT-clause-left : goal.returns-then-index-lt-SPENT-clause-left
returns-then-index-lt-SPENT-clause-left g c =
    let vs = c.self.inside.places in let ns = c.self.inside.next.items in let s = c.args.at in let i = s.index in
    let long = c.self.invariant.0 in let k = c.self.invariant.1 in
    let f = found vs ns s long (subst (λ a. IsSome (value_at a s)) (sym c.self.view_is) (c.is_live.ensures.0 c.if-not-is_live.false)) in
    rw (← c.self.view_is) (rw c.take-value.ensures.left (paired-put vs ns i None ∙ ap (λ n. slice_set (paired vs ns) i (place None n)) f.next))

pub invariant_of-self-else-index-lt-SPENT : goal.invariant_of-self-else-index-lt-SPENT
invariant_of-self-else-index-lt-SPENT g c =
    let vs = c.self.inside.places in let ns = c.self.inside.next.items in let s = c.args.at in let i = s.index in
    let long = c.self.invariant.0 in let k = c.self.invariant.1 in
    let f = found vs ns s long (subst (λ a. IsSome (value_at a s)) (sym c.self.view_is) (c.is_live.ensures.0 c.if-not-is_live.false)) in
    let n = c.index.result.now in let same : n ≡ get_or ns i 0 = c.index.ensures ∙ get_or-any ns i n 0 (omega (arith, length-filled vs i f.value f.filled, long)) in
    rw c.take-value.ensures.left (
      long ∙ sym (length-set vs i None),
      fields-retired vs ns long c.self.inside.free.items i f.value f.filled (omega (arith, same, c.if-index-lt-SPENT.false)) k,
    )

pub returns-clause-value : goal.returns-clause-value
returns-clause-value g c =
    let vs = c.self.inside.places in let ns = c.self.inside.next.items in let s = c.args.at in let i = s.index in
    let long = c.self.invariant.0 in let k = c.self.invariant.1 in
    let f = found vs ns s long (subst (λ a. IsSome (value_at a s)) (sym c.self.view_is) (c.is_live.ensures.0 c.if-not-is_live.false)) in
    rw (← c.self.view_is) (sym c.take-value.ensures.value ∙ f.filled ∙ sym f.is)

pub returns-clause-left : goal.returns-clause-left
returns-clause-left g c =
    let vs = c.self.inside.places in let ns = c.self.inside.next.items in let s = c.args.at in let i = s.index in
    let long = c.self.invariant.0 in let k = c.self.invariant.1 in
    let f = found vs ns s long (subst (λ a. IsSome (value_at a s)) (sym c.self.view_is) (c.is_live.ensures.0 c.if-not-is_live.false)) in
    rw (← c.self.view_is) (rw c.take-value.ensures.left (paired-put vs ns i None ∙ ap (λ n. slice_set (paired vs ns) i (place None n)) f.next))
