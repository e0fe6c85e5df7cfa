use Rattle.ordered_json.proofs.NumbersLemmas.{exponent_of}
use Rattle.ordered_json.proofs.numbers.exponent.Goals as goal

pub returns-in-Some : goal.returns-in-Some
returns-in-Some c = exponent_of _ _ _ _ c.in-Some.ensures c.after_sign.ensures c.some_digits.ensures
