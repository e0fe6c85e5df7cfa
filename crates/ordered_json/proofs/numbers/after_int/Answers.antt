use Rattle.ordered_json.proofs.NumbersLemmas.{zero_cut}
use Rattle.ordered_json.proofs.numbers.after_int.Goals as goal

pub returns-in-Some : goal.returns-in-Some
returns-in-Some c = zero_cut _ _ c.in-Some.ensures
