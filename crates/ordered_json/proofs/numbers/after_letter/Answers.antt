use Rattle.ordered_json.proofs.NumbersLemmas.{small_letter_cut, letter_of}
use Rattle.ordered_json.proofs.numbers.after_letter.Goals as goal

pub returns-in-Some : goal.returns-in-Some
returns-in-Some c = small_letter_cut _ _ c.in-Some.ensures

pub returns-in-None : goal.returns-in-None
returns-in-None c = letter_of _ _ c.in-None.ensures c.after_byte-in-None.ensures
