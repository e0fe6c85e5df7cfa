use Rattle.std.proofs.Common.{sym, ◌∙◌, ap}
use Rattle.ordered_json.proofs.ShownLemmas.{json_of_text}
use Rattle.json_spec.specs.Value.{a_text}
use Rattle.condition_match.proofs.ReduceLemmas.{text_left, leaving_left, no_target_left}
use Rattle.condition_match.proofs.reducing.reduced_text.Goals as goal

pub returns-then-branch : goal.returns-then-branch
returns-then-branch c = λ conditions.
    leaving_left conditions c.args.imports c.args.target.now (sym c.begins.ensures ∙ c.if-begins.true)
    (sym c.in_ok-leaves_package.ensures ∙ c.if-branch.true)

pub returns-then-begins : goal.returns-then-begins
returns-then-begins c = λ conditions. text_left conditions c.args.imports c.args.target.now _ (json_of_text _ ∙ ap a_text c.in_ok-of.ensures)

pub returns-in_ok-of-2 : goal.returns-in_ok-of-2
returns-in_ok-of-2 c = λ conditions. text_left conditions c.args.imports c.args.target.now _ (json_of_text _ ∙ ap a_text c.in_ok-of-2.ensures)

pub returns-else-branch-2 : goal.returns-else-branch-2
returns-else-branch-2 c = λ conditions.
    no_target_left conditions c.args.imports c.args.target.now (sym c.begins.ensures ∙ c.if-begins.false)
    (sym c.in_ok-names_package.ensures ∙ c.if-branch-2.false)
