use Rattle.std.proofs.Common.{◌<◌, ◌/◌, length, None, is_some, sym, ap, ◌∙◌, subst, arith}
use Rattle.slot_arena.proofs.Joined.{lies, length-chunk, get_or-joined}
use Rattle.slot_arena.proofs.places.Places.holds.Goals as goal

pub index-requires : goal.index-requires
index-requires g c =
    let rows = c.self.inside.chunks.items in let lt = subst (λ row. c.args.place < length row) (sym c.self.view_is) c.requires in
    omega (arith, (lies rows c.self.invariant c.args.place lt).chunk, c.self.inside.chunks.ok.0)

pub holds-requires : goal.holds-requires
holds-requires g c =
    let rows = c.self.inside.chunks.items in let lt = subst (λ row. c.args.place < length row) (sym c.self.view_is) c.requires in
    let l = lies rows c.self.invariant c.args.place lt in
    omega (arith, l.place, length-chunk rows c.self.invariant (c.args.place / 64) c.index.result.now l.chunk c.index.ensures)

pub returns : goal.returns
returns g c =
    let rows = c.self.inside.chunks.items in let lt = subst (λ row. c.args.place < length row) (sym c.self.view_is) c.requires in
    rw (← c.self.view_is) (c.holds.ensures ∙ ap is_some (sym (get_or-joined rows c.self.invariant c.args.place lt c.index.result.now None c.index.ensures)))
