use Rattle.std.proofs.Common.{◌≡◌, Some, get_or, sym, ◌∙◌, subst, arith, ◌+◌, ◌∷◌, [], length-set, length-append, vec_capacity}
use Rattle.slot_arena.specs.Slots.{place}
use Rattle.slot_arena.specs.Kept.{IsKept, paired}
use Rattle.slot_arena.proofs.Paired.{length-paired, place_at-paired, paired-set}
use Rattle.slot_arena.proofs.PlaceLemmas.{get_or-any, spare_live-le}
use Rattle.slot_arena.proofs.Fields.{next_place, fields-placed}
use Rattle.slot_arena.proofs.arena.SlotArena.insert_reserved.Goals as goal

pub index-generation-requires : goal.index-generation-requires
index-generation-requires g c =
    let vs = c.self.inside.places in let ns = c.self.inside.next.items in let i = c.in-Some.index in let rest = c.pop.new.self.items in
    let long = c.self.invariant.0 in
    let k = subst (λ l. IsKept (paired vs ns) l c.self.inside.count (vec_capacity c.self.inside.free)) c.in-Some.ensures.items c.self.invariant.1 in
    let p = next_place vs ns long rest i k in
    omega (arith, p.has_next, c.self.inside.next.ok.0)

pub overflow_add-generation : goal.overflow_add-generation
overflow_add-generation g c =
    let vs = c.self.inside.places in let ns = c.self.inside.next.items in let i = c.in-Some.index in let rest = c.pop.new.self.items in
    let long = c.self.invariant.0 in
    let k = subst (λ l. IsKept (paired vs ns) l c.self.inside.count (vec_capacity c.self.inside.free)) c.in-Some.ensures.items c.self.invariant.1 in
    let p = next_place vs ns long rest i k in
    let n = c.index-generation.result.now in let same : n ≡ get_or ns i 0 = c.index-generation.ensures ∙ get_or-any ns i n 0 p.has_next in
    omega (arith, same, p.unspent)

pub index_mut-requires : goal.index_mut-requires
index_mut-requires g c =
    let vs = c.self.inside.places in let ns = c.self.inside.next.items in let i = c.in-Some.index in let rest = c.pop.new.self.items in
    let long = c.self.invariant.0 in
    let k = subst (λ l. IsKept (paired vs ns) l c.self.inside.count (vec_capacity c.self.inside.free)) c.in-Some.ensures.items c.self.invariant.1 in
    let p = next_place vs ns long rest i k in
    omega (arith, p.has_next, c.self.inside.next.ok.0)

pub overflow_add-self : goal.overflow_add-self
overflow_add-self g c =
    let vs = c.self.inside.places in let ns = c.self.inside.next.items in let i = c.in-Some.index in let rest = c.pop.new.self.items in
    let long = c.self.invariant.0 in
    let k = subst (λ l. IsKept (paired vs ns) l c.self.inside.count (vec_capacity c.self.inside.free)) c.in-Some.ensures.items c.self.invariant.1 in
    let p = next_place vs ns long rest i k in
    omega (arith, k.all_live, spare_live-le (paired vs ns), k.all_spare, length-append rest (i ∷ []), k.is_small)

pub put-requires : goal.put-requires
put-requires g c =
    let vs = c.self.inside.places in let ns = c.self.inside.next.items in let i = c.in-Some.index in let rest = c.pop.new.self.items in
    let long = c.self.invariant.0 in
    let k = subst (λ l. IsKept (paired vs ns) l c.self.inside.count (vec_capacity c.self.inside.free)) c.in-Some.ensures.items c.self.invariant.1 in
    let p = next_place vs ns long rest i k in
    (p.has_value, p.empty)

pub overflow_cast-result : goal.overflow_cast-result
overflow_cast-result g c =
    let vs = c.self.inside.places in let ns = c.self.inside.next.items in let i = c.in-Some.index in let rest = c.pop.new.self.items in
    let long = c.self.invariant.0 in
    let k = subst (λ l. IsKept (paired vs ns) l c.self.inside.count (vec_capacity c.self.inside.free)) c.in-Some.ensures.items c.self.invariant.1 in
    let p = next_place vs ns long rest i k in
    let n = c.index-generation.result.now in let same : n ≡ get_or ns i 0 = c.index-generation.ensures ∙ get_or-any ns i n 0 p.has_next in
    omega (arith, same, p.unspent)

pub invariant_of-self : goal.invariant_of-self
invariant_of-self g c =
    let vs = c.self.inside.places in let ns = c.self.inside.next.items in let i = c.in-Some.index in let rest = c.pop.new.self.items in
    let long = c.self.invariant.0 in
    let k = subst (λ l. IsKept (paired vs ns) l c.self.inside.count (vec_capacity c.self.inside.free)) c.in-Some.ensures.items c.self.invariant.1 in
    let p = next_place vs ns long rest i k in
    let n = c.index-generation.result.now in let same : n ≡ get_or ns i 0 = c.index-generation.ensures ∙ get_or-any ns i n 0 p.has_next in
    rw c.put.ensures (rw c.pop.ensures.capacity (
      length-set ns i (n + 1) ∙ long ∙ sym (length-set vs i (Some c.args.value)),
      rw same (fields-placed vs ns long rest i c.args.value k),
    ))

pub returns-clause-fresh : goal.returns-clause-fresh
returns-clause-fresh g c =
    let vs = c.self.inside.places in let ns = c.self.inside.next.items in let i = c.in-Some.index in let rest = c.pop.new.self.items in
    let long = c.self.invariant.0 in
    let k = subst (λ l. IsKept (paired vs ns) l c.self.inside.count (vec_capacity c.self.inside.free)) c.in-Some.ensures.items c.self.invariant.1 in
    let p = next_place vs ns long rest i k in
    let n = c.index-generation.result.now in let same : n ≡ get_or ns i 0 = c.index-generation.ensures ∙ get_or-any ns i n 0 p.has_next in
    rw (← c.self.view_is) (record {
      within = omega (arith, p.has_value, length-paired vs ns long);
      empty = place_at-paired vs ns long i ∙ (λ j. place (p.empty j) (sym same j));
      unspent = omega (arith, same, p.unspent);
    })

pub returns-clause-placed : goal.returns-clause-placed
returns-clause-placed g c =
    let vs = c.self.inside.places in let ns = c.self.inside.next.items in
    rw (← c.self.view_is) (rw c.put.ensures (paired-set vs ns c.in-Some.index (Some c.args.value) (c.index-generation.result.now + 1)))
