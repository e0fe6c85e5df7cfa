use Rattle.std.proofs.Common.{rules}
use Rattle.project_file.proofs.StringLists.{stands_twice, seen_all}
use Rattle.project_file.proofs.lists.are_distinct.Goals as goal

pub returns-then-not-is_new : goal.returns-then-not-is_new
returns-then-not-is_new c =
    ((λ yes. absurd (search rules)), (λ distinct. absurd (stands_twice c.args.texts.now c.loop-text.text-index c.text-item.result (search rules) (search rules) (search rules) distinct)))

pub returns : goal.returns
returns c =
    ((λ yes. seen_all c.args.texts.now c.loop-text.seen.keys c.loop-text.text-index c.loop-text-test.false c.loop-text.invariant.0 c.loop-text.invariant.1), (λ distinct. search rules))
