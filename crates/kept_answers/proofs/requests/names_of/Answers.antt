use Rattle.std.proofs.Common.{rules}
use Rattle.kept_answers.proofs.TableLemmas.{one_more}
use Rattle.kept_answers.proofs.requests.names_of.Goals as goal

pub loop-index-preserved : goal.loop-index-preserved
loop-index-preserved c =
    one_more c.loop-index.names c.args.conditions.now c.push.new.self c.loop-index.index c.in_ok-copy.field-0
    c.in-Some.name.now c.loop-index.invariant (search rules) c.in_ok-copy.ensures c.in_ok-push.ensures
