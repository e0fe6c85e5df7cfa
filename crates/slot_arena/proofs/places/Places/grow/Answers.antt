use Rattle.std.proofs.Common.{sym, ap, ◌∙◌, subst}
use Rattle.slot_arena.specs.Rows.{joined, AreChunks}
use Rattle.slot_arena.proofs.Joined.{chunks-more, joined-more}
use Rattle.slot_arena.proofs.places.Places.grow.Goals as goal

pub invariant_of-self-2 : goal.invariant_of-self-2
invariant_of-self-2 g c = subst AreChunks (sym c.in_ok-add_chunks.ensures.ok) (chunks-more c.self.inside.chunks.items c.self.invariant c.args.chunks)

pub returns-clause-ok : goal.returns-clause-ok
returns-clause-ok g c = rw (← c.self.view_is) (ap joined c.in_ok-add_chunks.ensures.ok ∙ joined-more c.self.inside.chunks.items c.args.chunks)
