use Rattle.std.proofs.Common.{◌≡◌, true, Err, ap, ◌∙◌}
use Rattle.tree_vendor.proofs.GoalMaps.{goals_kept, goals_put}
use Rattle.tree_vendor.proofs.goals.put_goal.Goals as goal

pub returns-then-not-is_source-clause-puts : goal.returns-then-not-is_source-clause-puts
returns-then-not-is_source-clause-puts c = λ done were.
    goals_kept c.args.known.now c.args.to.now done c.args.path.now c.args.goals.now
    (λ source. (let is : c.is_source.result ≡ true = c.is_source.ensures.1 source in let not = c.if-not-is_source.true in cc))
    were

pub returns-in-Ok-insert-clause-puts : goal.returns-in-Ok-insert-clause-puts
returns-in-Ok-insert-clause-puts c = λ done were.
    let is : c.is_source.result ≡ true = (let not = c.if-not-is_source.false in cc) in
    goals_put c.args.known.now c.args.to.now done c.args.path.now c.in-Ok.goal c.args.goals.now c.insert.new.goals
    (c.is_source.ensures.0 is) c.in-Ok.ensures.path.0 c.in-Ok.ensures.path.1 c.in-Ok-insert.ensures were

pub returns-in-Err-BadPath-clause-bad : goal.returns-in-Err-BadPath-clause-bad
returns-in-Err-BadPath-clause-bad c = λ e.
    let is : c.is_source.result ≡ true = (let not = c.if-not-is_source.false in cc) in
    record {
      source = c.is_source.ensures.0 is;
      to_is = c.goal.ensures.paths.0;
      is_path = c.goal.ensures.paths.1;
      bad = c.goal.ensures.bad (c.in-Err-BadPath.is ∙ ap Err c.in-Err-BadPath.field-0-is);
    }
