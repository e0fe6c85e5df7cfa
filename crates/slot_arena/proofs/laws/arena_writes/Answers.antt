use Rattle.slot_arena.proofs.SlotLaws.{each_writes}
use Rattle.slot_arena.proofs.laws.arena_writes.Goals as goal

pub returns : goal.returns
returns g c = each_writes g.row.T.Denot
