use Rattle.ordered_json.proofs.NumbersLemmas.{minus_cut}
use Rattle.ordered_json.proofs.numbers.after_minus.Goals as goal

pub returns-in-Some : goal.returns-in-Some
returns-in-Some c = minus_cut _ _ c.in-Some.ensures
