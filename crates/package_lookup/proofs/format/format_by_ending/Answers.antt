use Rattle.std.proofs.Common.{sym, ◌∙◌}
use Rattle.package_lookup.proofs.RecordAnswers.{ends_json, ends_node, ends_otherwise}
use Rattle.package_lookup.proofs.format.format_by_ending.Goals as goal

pub returns-then-has_ending-3 : goal.returns-then-has_ending-3
returns-then-has_ending-3 c =
    ends_json c.args.path.now (sym c.has_ending.ensures ∙ c.if-has_ending.false)
    (sym c.has_ending-else-has_ending.ensures ∙ c.if-has_ending-2.false)
    (sym c.has_ending-else-has_ending-2.ensures ∙ c.if-has_ending-3.true)

pub returns-then-has_ending-4 : goal.returns-then-has_ending-4
returns-then-has_ending-4 c =
    ends_node c.args.path.now (sym c.has_ending.ensures ∙ c.if-has_ending.false)
    (sym c.has_ending-else-has_ending.ensures ∙ c.if-has_ending-2.false)
    (sym c.has_ending-else-has_ending-2.ensures ∙ c.if-has_ending-3.false)
    (sym c.has_ending-else-has_ending-3.ensures ∙ c.if-has_ending-4.true)

pub returns-else-has_ending-5 : goal.returns-else-has_ending-5
returns-else-has_ending-5 c =
    ends_otherwise c.args.path.now (sym c.has_ending.ensures ∙ c.if-has_ending.false)
    (sym c.has_ending-else-has_ending.ensures ∙ c.if-has_ending-2.false)
    (sym c.has_ending-else-has_ending-2.ensures ∙ c.if-has_ending-3.false)
    (sym c.has_ending-else-has_ending-3.ensures ∙ c.if-has_ending-4.false)
    (sym c.has_ending-else-has_ending-4.ensures ∙ c.if-has_ending-5.false)
