use Rattle.std.proofs.Common.{◌≡◌, true, ℕ, List, Contains, take_all, subst}
use Rattle.tree_vendor.proofs.Elements.{got}
use Rattle.tree_vendor.proofs.GoalMaps.{held_more, long_here, none_long}
use Rattle.tree_vendor.specs.Planning.{AreOfBytes, IsOfBytes, IsTooLong}
use Rattle.tree_vendor.proofs.planning.has_long_goal.Goals as goal

pub loop-path-preserved : goal.loop-path-preserved
loop-path-preserved c =
    let at = got c.args.footprint.now c.loop-path.path-index c.path-item.result c.loop-path-test.true c.path-item.is in (
      held_more c.args.known.now c.args.to.now c.args.footprint.now c.loop-path.path-index c.path-item.result at
          (λ path. IsTooLong c.args.known.now c.args.to.now path → ⊥) c.loop-path.invariant.0
          (λ long. (let is : c.is_too_long.result ≡ true = c.is_too_long.ensures.long.1 long in
          let not = c.if-is_too_long.false in absurd (cc))),
      held_more c.args.known.now c.args.to.now c.args.footprint.now c.loop-path.path-index c.path-item.result at IsOfBytes
          c.loop-path.invariant.1 c.is_too_long.ensures.bytes,
    )

pub returns-then-is_too_long-clause-long : goal.returns-then-is_too_long-clause-long
returns-then-is_too_long-clause-long c =
    let at = got c.args.footprint.now c.loop-path.path-index c.path-item.result c.loop-path-test.true c.path-item.is in (
      λ yes. long_here c.args.known.now c.args.to.now c.args.footprint.now c.loop-path.path-index c.path-item.result at
          (c.is_too_long.ensures.long.0 c.if-is_too_long.true),
      λ has. cc,
    )

pub returns-clause-long : goal.returns-clause-long
returns-clause-long c =
    let whole = take_all c.loop-path.path-index c.args.footprint.now c.loop-path-test.false in (
      λ yes. absurd (cc),
      λ has. absurd (none_long c.args.known.now c.args.to.now c.args.footprint.now
          (subst (λ paths. (path : List ℕ) → Contains paths path → IsTooLong c.args.known.now c.args.to.now path → ⊥) whole
          c.loop-path.invariant.0) has),
    )

pub returns-clause-bytes : goal.returns-clause-bytes
returns-clause-bytes c = λ none.
    subst AreOfBytes (take_all c.loop-path.path-index c.args.footprint.now c.loop-path-test.false) c.loop-path.invariant.1
