use Rattle.std.proofs.Common.{take, ap}
use native.Mathlib.Numerals.{unary_clauses}
use Rattle.html_resolve.proofs.FrontLemmas.{no_front, next_one, behind_slash}
use Rattle.html_resolve.proofs.fronts.next_front.Goals as goal

pub range-requires-clause-end_boundary : goal.range-requires-clause-end_boundary
range-requires-clause-end_boundary c =
    behind_slash c.args.text.now (take c.args.limit c.as_bytes.result.now) c.args.limit c.requires (ap (take c.args.limit) c.as_bytes.ensures.value) c.in-Some.at c.in-Some.ensures.0 c.in-Some.ensures.1 c.utf8.text

pub range_from-requires : goal.range_from-requires
range_from-requires c =
    λ some. behind_slash c.args.text.now (take c.args.limit c.as_bytes.result.now) c.args.limit c.requires (ap (take c.args.limit) c.as_bytes.ensures.value) c.in-Some.at c.in-Some.ensures.0 c.in-Some.ensures.1 c.utf8.text

pub returns-in-None : goal.returns-in-None
returns-in-None c = no_front c.args.text.now (take c.args.limit c.as_bytes.result.now) c.args.limit c.requires (ap (take c.args.limit) c.as_bytes.ensures.value) c.in-None.ensures

pub returns-in-Some : goal.returns-in-Some
returns-in-Some c =
    next_one c.args.text.now (take c.args.limit c.as_bytes.result.now) c.args.limit c.requires (ap (take c.args.limit) c.as_bytes.ensures.value) c.in-Some.at _ _ _ c.in-Some.ensures.0 c.in-Some.ensures.1 c.in-Some.ensures.2
    (simp unary_clauses at c.range.ensures.value) (simp unary_clauses at c.range_from.ensures.value) (simp unary_clauses at c.range-in-Some.ensures.value)
