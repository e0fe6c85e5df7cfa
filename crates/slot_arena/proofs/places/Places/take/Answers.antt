use Rattle.std.proofs.Common.{◌/◌, None, sym, ◌∙◌, subst, arith}
use Rattle.slot_arena.specs.Rows.{joined, IsFilled}
use Rattle.slot_arena.proofs.Joined.{lies, length-chunk, get_or-joined, joined-set, chunks-set_at}
use Rattle.slot_arena.proofs.Paired.{length-filled}
use Rattle.slot_arena.proofs.places.Places.take.Goals as goal

pub index_mut-requires : goal.index_mut-requires
index_mut-requires g c =
    let rows = c.self.inside.chunks.items in let i = c.args.place in
    let f = subst (λ row. IsFilled row i) (sym c.self.view_is) c.requires in let lt = length-filled (joined rows) i f.0 f.1 in
    omega (arith, (lies rows c.self.invariant i lt).chunk, c.self.inside.chunks.ok.0)

pub take-requires : goal.take-requires
take-requires g c =
    let rows = c.self.inside.chunks.items in let i = c.args.place in
    let f = subst (λ row. IsFilled row i) (sym c.self.view_is) c.requires in let lt = length-filled (joined rows) i f.0 f.1 in
    let chunk = c.index_mut.result.now in let is = c.index_mut.ensures.value in
    let l = lies rows c.self.invariant i lt in (omega (arith, l.place, length-chunk rows c.self.invariant (i / 64) chunk l.chunk is), (f.0, sym (get_or-joined rows c.self.invariant i lt chunk None is) ∙ f.1))

pub invariant_of-self : goal.invariant_of-self
invariant_of-self g c =
    let rows = c.self.inside.chunks.items in let i = c.args.place in
    let f = subst (λ row. IsFilled row i) (sym c.self.view_is) c.requires in let lt = length-filled (joined rows) i f.0 f.1 in
    let chunk = c.index_mut.result.now in let is = c.index_mut.ensures.value in
    rw c.take.ensures.left (chunks-set_at rows c.self.invariant i lt chunk None is)

pub returns-clause-value : goal.returns-clause-value
returns-clause-value g c =
    let rows = c.self.inside.chunks.items in let i = c.args.place in
    let f = subst (λ row. IsFilled row i) (sym c.self.view_is) c.requires in let lt = length-filled (joined rows) i f.0 f.1 in
    let chunk = c.index_mut.result.now in let is = c.index_mut.ensures.value in
    rw (← c.self.view_is) (get_or-joined rows c.self.invariant i lt chunk None is ∙ c.take.ensures.value)

pub returns-clause-left : goal.returns-clause-left
returns-clause-left g c =
    let rows = c.self.inside.chunks.items in let i = c.args.place in
    let f = subst (λ row. IsFilled row i) (sym c.self.view_is) c.requires in let lt = length-filled (joined rows) i f.0 f.1 in
    let chunk = c.index_mut.result.now in let is = c.index_mut.ensures.value in
    rw (← c.self.view_is) (rw c.take.ensures.left (joined-set rows c.self.invariant i lt chunk None is))
