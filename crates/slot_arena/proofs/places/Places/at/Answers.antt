use Rattle.std.proofs.Common.{◌/◌, None, sym, ◌∙◌, subst, arith}
use Rattle.slot_arena.specs.Rows.{joined, IsFilled}
use Rattle.slot_arena.proofs.Joined.{lies, length-chunk, get_or-joined}
use Rattle.slot_arena.proofs.Paired.{length-filled}
use Rattle.slot_arena.proofs.places.Places.at.Goals as goal

pub index-requires : goal.index-requires
index-requires g c =
    let rows = c.self.inside.chunks.items in let i = c.args.place in let f = subst (λ row. IsFilled row i) (sym c.self.view_is) c.requires in
    omega (arith, (lies rows c.self.invariant i (length-filled (joined rows) i f.0 f.1)).chunk, c.self.inside.chunks.ok.0)

pub at-requires : goal.at-requires
at-requires g c =
    let rows = c.self.inside.chunks.items in let i = c.args.place in let f = subst (λ row. IsFilled row i) (sym c.self.view_is) c.requires in
    let lt = length-filled (joined rows) i f.0 f.1 in let l = lies rows c.self.invariant i lt in let chunk = c.index.result.now in (
      omega (arith, l.place, length-chunk rows c.self.invariant (i / 64) chunk l.chunk c.index.ensures),
      (f.0, sym (get_or-joined rows c.self.invariant i lt chunk None c.index.ensures) ∙ f.1),
    )

pub returns : goal.returns
returns g c =
    let rows = c.self.inside.chunks.items in let i = c.args.place in let f = subst (λ row. IsFilled row i) (sym c.self.view_is) c.requires in
    let lt = length-filled (joined rows) i f.0 f.1 in
    rw (← c.self.view_is) (get_or-joined rows c.self.invariant i lt c.index.result.now None c.index.ensures ∙ c.at.ensures)
