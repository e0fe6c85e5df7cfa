use Rattle.slot_arena.proofs.SlotLaws.{given_once}
use Rattle.slot_arena.proofs.laws.slot_given_once.Goals as goal

pub returns : goal.returns
returns g c = given_once g.row.T.Denot
