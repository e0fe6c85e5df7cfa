use Rattle.std.proofs.Common.{◌≡◌, Err, ap, ◌∙◌, subst, take_all}
use Rattle.tree_vendor.proofs.Elements.{got}
use Rattle.tree_vendor.proofs.GoalMaps.{bad_here, goals_more, no_goals}
use Rattle.tree_vendor.specs.Planning.{AreGoals}
use Rattle.tree_vendor.specs.declared.planning.VendorFault.TheVariants.{PathTooLong, TooManySegments}
use Rattle.tree_vendor.proofs.goals.goals.Goals as goal

pub loop-path-init : goal.loop-path-init
loop-path-init c = no_goals c.args.known.now c.args.to.now c.new-goals.result c.new-goals.ensures.empty

pub loop-path-preserved : goal.loop-path-preserved
loop-path-preserved c =
    goals_more c.args.known.now c.args.to.now c.args.footprint.now c.loop-path.path-index c.path-item.result
    (got c.args.footprint.now c.loop-path.path-index c.path-item.result c.loop-path-test.true c.path-item.is)
    c.loop-path.goals c.put_goal.new.goals c.in-Ok.ensures.puts c.loop-path.invariant

pub returns-in-Err-clause-bad : goal.returns-in-Err-clause-bad
returns-in-Err-clause-bad c = λ e.
    bad_here c.args.known.now c.args.to.now c.args.footprint.now c.loop-path.path-index c.path-item.result
    (got c.args.footprint.now c.loop-path.path-index c.path-item.result c.loop-path-test.true c.path-item.is)
    (c.put_goal.ensures.bad (c.in-Err.is ∙ (let same : c.in-Err.fault ≡ TooManySegments = cc in ap Err same)))

pub returns-in-Err-clause-short : goal.returns-in-Err-clause-short
returns-in-Err-clause-short c = λ e.
    c.put_goal.ensures.short (c.in-Err.is ∙ (let same : c.in-Err.fault ≡ PathTooLong = cc in ap Err same))

pub returns-clause-are : goal.returns-clause-are
returns-clause-are c =
    subst (λ done. AreGoals c.args.known.now c.args.to.now done c.loop-path.goals)
    (take_all c.loop-path.path-index c.args.footprint.now c.loop-path-test.false) c.loop-path.invariant
