use Rattle.slot_arena.proofs.SlotLaws.{each_grows}
use Rattle.slot_arena.proofs.laws.arena_grows.Goals as goal

pub returns : goal.returns
returns g c = each_grows g.row.T.Denot
