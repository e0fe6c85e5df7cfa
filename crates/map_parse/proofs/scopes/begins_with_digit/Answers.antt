use Rattle.std.proofs.Common.{◌∙◌, sym}
use Rattle.map_parse.proofs.PlainNames.{no_byte, no_digit_first}
use Rattle.map_parse.proofs.scopes.begins_with_digit.Goals as goal

pub returns-in-None : goal.returns-in-None
returns-in-None c = λ t. no_byte c.args.name.now c.in-None.ensures.cases

pub returns-in-Some : goal.returns-in-Some
returns-in-Some c = λ t. no_digit_first c.args.name.now _ c.in-Some.first.now c.in-Some.ensures.cases.0 (sym c.is_ascii_digit.ensures.value ∙ t)
