use Rattle.std.proofs.Common.{rules}
use Rattle.kept_answers.proofs.TableLemmas.{name_differs, same_more}
use Rattle.kept_answers.proofs.requests.are_same.Goals as goal

pub returns-then-not-is_same : goal.returns-then-not-is_same
returns-then-not-is_same c =
    name_differs c.args.names.now c.args.conditions.now c.loop-index.index c.is_same.result c.is_same.ensures
    c.if-not-is_same.true

pub loop-index-preserved : goal.loop-index-preserved
loop-index-preserved c =
    same_more c.args.names.now c.args.conditions.now c.loop-index.index c.is_same.result (search rules) (search rules)
    c.loop-index.invariant c.is_same.ensures c.if-not-is_same.false
