use Rattle.std.proofs.Common.{◌/◌, Some, None, sym, ◌∙◌, subst, refl, arith}
use Rattle.slot_arena.specs.Rows.{joined, IsFilled}
use Rattle.slot_arena.proofs.Joined.{lies, length-chunk, get_or-joined, joined-set, chunks-set_at}
use Rattle.slot_arena.proofs.Paired.{length-filled}
use Rattle.slot_arena.proofs.places.Places.at_mut.Goals as goal

pub index_mut-chunk-requires : goal.index_mut-chunk-requires
index_mut-chunk-requires g c =
    let rows = c.self.inside.chunks.items in let i = c.args.place in let f = subst (λ row. IsFilled row i) (sym c.self.view_is) c.requires in
    omega (arith, (lies rows c.self.invariant i (length-filled (joined rows) i f.0 f.1)).chunk, c.self.inside.chunks.ok.0)

pub at_mut-requires : goal.at_mut-requires
at_mut-requires g c =
    let rows = c.self.inside.chunks.items in let i = c.args.place in let f = subst (λ row. IsFilled row i) (sym c.self.view_is) c.requires in
    let lt = length-filled (joined rows) i f.0 f.1 in let l = lies rows c.self.invariant i lt in
    let chunk = c.index_mut-chunk.result.now in let is = c.index_mut-chunk.ensures.value in (
      omega (arith, l.place, length-chunk rows c.self.invariant (i / 64) chunk l.chunk is),
      (f.0, sym (get_or-joined rows c.self.invariant i lt chunk None is) ∙ f.1),
    )

pub invariant_of-self-lent : goal.invariant_of-self-lent
invariant_of-self-lent g c = λ w.
    let rows = c.self.inside.chunks.items in let i = c.args.place in let f = subst (λ row. IsFilled row i) (sym c.self.view_is) c.requires in
    let lt = length-filled (joined rows) i f.0 f.1 in
    chunks-set_at rows c.self.invariant i lt c.index_mut-chunk.result.now (Some w) c.index_mut-chunk.ensures.value

pub returns : goal.returns
returns g c =
    let rows = c.self.inside.chunks.items in let i = c.args.place in let f = subst (λ row. IsFilled row i) (sym c.self.view_is) c.requires in
    let lt = length-filled (joined rows) i f.0 f.1 in let chunk = c.index_mut-chunk.result.now in let is = c.index_mut-chunk.ensures.value in
    rw (← c.self.view_is) (
      (refl, λ w. joined-set rows c.self.invariant i lt chunk (Some w) is),
      record { writes_back = tt; value = get_or-joined rows c.self.invariant i lt chunk None is ∙ c.at_mut.ensures.value },
    )
