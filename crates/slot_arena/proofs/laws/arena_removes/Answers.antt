use Rattle.slot_arena.proofs.SlotLaws.{each_removes}
use Rattle.slot_arena.proofs.laws.arena_removes.Goals as goal

pub returns : goal.returns
returns g c = each_removes g.row.T.Denot
