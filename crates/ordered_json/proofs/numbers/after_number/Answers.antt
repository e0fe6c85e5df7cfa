use Rattle.ordered_json.proofs.NumbersLemmas.{number_of}
use Rattle.ordered_json.proofs.numbers.after_number.Goals as goal

pub returns : goal.returns
returns c = number_of _ _ _ _ _ c.after_minus.ensures c.in_ok-whole.ensures c.after_fraction.ensures c.after_exponent.ensures
