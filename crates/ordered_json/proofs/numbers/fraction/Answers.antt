use Rattle.ordered_json.proofs.NumbersLemmas.{fraction_of}
use Rattle.ordered_json.proofs.numbers.fraction.Goals as goal

pub returns-in-Some : goal.returns-in-Some
returns-in-Some c = fraction_of _ _ _ c.in-Some.ensures c.some_digits.ensures
