use Rattle.std.proofs.Common.{◌≡◌, ◌<◌, ◌/◌, length, get_or, Some, None, sym, ◌∙◌, subst, arith}
use Rattle.slot_arena.proofs.Joined.{lies, length-chunk, get_or-joined, joined-set, chunks-set_at}
use Rattle.slot_arena.proofs.places.Places.put.Goals as goal

pub index_mut-requires : goal.index_mut-requires
index_mut-requires g c =
    let rows = c.self.inside.chunks.items in let i = c.args.place in
    let r = subst (λ row. (i < length row) × (get_or row i None ≡ None)) (sym c.self.view_is) c.requires in let lt = r.0 in
    omega (arith, (lies rows c.self.invariant i lt).chunk, c.self.inside.chunks.ok.0)

pub put-requires : goal.put-requires
put-requires g c =
    let rows = c.self.inside.chunks.items in let i = c.args.place in
    let r = subst (λ row. (i < length row) × (get_or row i None ≡ None)) (sym c.self.view_is) c.requires in let lt = r.0 in
    let chunk = c.index_mut.result.now in let is = c.index_mut.ensures.value in
    let l = lies rows c.self.invariant i lt in (omega (arith, l.place, length-chunk rows c.self.invariant (i / 64) chunk l.chunk is), sym (get_or-joined rows c.self.invariant i lt chunk None is) ∙ r.1)

pub invariant_of-self : goal.invariant_of-self
invariant_of-self g c =
    let rows = c.self.inside.chunks.items in let i = c.args.place in
    let r = subst (λ row. (i < length row) × (get_or row i None ≡ None)) (sym c.self.view_is) c.requires in let lt = r.0 in
    let chunk = c.index_mut.result.now in let is = c.index_mut.ensures.value in
    rw c.put.ensures (chunks-set_at rows c.self.invariant i lt chunk (Some c.args.value) is)

pub returns : goal.returns
returns g c =
    let rows = c.self.inside.chunks.items in let i = c.args.place in
    let r = subst (λ row. (i < length row) × (get_or row i None ≡ None)) (sym c.self.view_is) c.requires in let lt = r.0 in
    let chunk = c.index_mut.result.now in let is = c.index_mut.ensures.value in
    rw (← c.self.view_is) (rw c.put.ensures (joined-set rows c.self.invariant i lt chunk (Some c.args.value) is))
