use Rattle.slot_arena.proofs.SlotLaws.{is_given}
use Rattle.slot_arena.proofs.laws.live_is_given.Goals as goal

pub returns : goal.returns
returns g c = is_given g.row.T.Denot
