use Rattle.ordered_json.proofs.NumbersLemmas.{plus_cut}
use Rattle.ordered_json.proofs.numbers.after_sign.Goals as goal

pub returns-in-Some : goal.returns-in-Some
returns-in-Some c = plus_cut _ _ c.in-Some.ensures
