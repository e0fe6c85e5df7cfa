use Rattle.std.proofs.Common.{◌≡◌, true, ◌∙◌}
use Rattle.tree_vendor.proofs.GoalMaps.{plan_fails, planned}
use Rattle.tree_vendor.proofs.planning.plan.Goals as goal

pub returns-then-has_long_goal : goal.returns-then-has_long_goal
returns-then-has_long_goal c = c.has_long_goal.ensures.long.0 c.if-has_long_goal.true

pub returns-in-Err : goal.returns-in-Err
returns-in-Err c =
    plan_fails c.args.known.now c.args.to.now c.args.footprint.now c.in-Err.fault
    (λ e. c.goals.ensures.short (c.in-Err.is ∙ e)) (λ e. c.goals.ensures.bad (c.in-Err.is ∙ e))
    (λ has. (let is : c.has_long_goal.result ≡ true = c.has_long_goal.ensures.long.1 has in
    let not = c.if-has_long_goal.false in cc))

pub returns-in-Ok-plan_of : goal.returns-in-Ok-plan_of
returns-in-Ok-plan_of c =
    planned c.args.known.now c.args.to.now c.args.footprint.now c.in-Ok.goals c.in-Ok-plan_of.plan
    c.in-Ok-plan_of.ensures.entries c.in-Ok-plan_of.ensures.in_order (c.has_long_goal.ensures.bytes c.if-has_long_goal.false)
    c.in-Ok.ensures.are
