use Rattle.std.proofs.Common.{◌≢◌, None, Some, lit<}
use Rattle.std.proofs.lemmas.List.Elements.{All-from_get_or}
use Rattle.std.proofs.lemmas.Str.Pattern.{rfind_char}
use native.Mathlib.Numerals.{unary_clauses}
use Rattle.tree_model.proofs.Segments.{cut_parts}
use Rattle.tree_model.proofs.path.last_part.Goals as goal

pub returns-in-None : goal.returns-in-None
returns-in-None c = All-from_get_or (λ b. b ≢ 47) _ 0 (rfind_char 47 c.args.text.now None c.in-None.ensures.cases (lit< tt))

pub returns-in-Some : goal.returns-in-Some
returns-in-Some c =
    cut_parts c.args.text.now c.range.result.now c.range_from.result.now c.in-Some.at (simp unary_clauses at c.range.ensures.value) c.range_from.ensures.value
    (rfind_char 47 c.args.text.now (Some c.in-Some.at) c.in-Some.ensures.cases (lit< tt))
