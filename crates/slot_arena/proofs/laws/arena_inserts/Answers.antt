use Rattle.slot_arena.proofs.SlotLaws.{each_inserts}
use Rattle.slot_arena.proofs.laws.arena_inserts.Goals as goal

pub returns : goal.returns
returns g c = each_inserts g.row.T.Denot
