use Rattle.std.proofs.Common.{rules}
use Rattle.tree_spec.specs.LookAskings.{look_at_each}
use Rattle.tree_spec.specs.LookLimits.{look_limits}
use Rattle.package_lookup.specs.Lookups.{state_of}
use Rattle.package_lookup.specs.SeenLooks.{entry_of}
use Rattle.package_lookup.specs.declared.fault.LookupFault.TheVariants.{Memory}
use Rattle.package_lookup.proofs.Questions.{looked_err}
use Rattle.package_lookup.proofs.SameLookups.{same_twice}
use Rattle.kept_spec.proofs.Replaying.{counted_small}
use Rattle.kept_answers.specs.KnownLooks.{done}
use Rattle.kept_answers.proofs.LookingAgain.{far_goes, far_ends, far_fails, far_lost}
use Rattle.kept_answers.proofs.looks.looks_at.Goals as goal

pub returns-in_err-seen-clause-answered : goal.returns-in_err-seen-clause-answered
returns-in_err-seen-clause-answered g c =
    looked_err done _ _ (look_at_each c.args.paths.now) c.from_residual.result c.in_err-seen.field-0.0
    c.from_residual.ensures.1
    (far_fails (state_of g.F.Folder.state c.args.lookup.now)
    (state_of g.F.Folder.state c.loop-path.lookup)
    (state_of g.F.Folder.state c.seen_at.new.lookup) c.args.paths.now
    c.loop-path.rest.now c.in-Some.others.now c.in-Some.path.now c.loop-path.looks c.loop-path.invariant.far (search rules)
    c.in_err-seen.field-0.0 c.in_err-seen.ensures.answered)

pub returns-in_err-copy-clause-answered : goal.returns-in_err-copy-clause-answered
returns-in_err-copy-clause-answered g c =
    looked_err done _ _ (look_at_each c.args.paths.now) c.from_residual-in_err-copy.result Memory
    c.from_residual-in_err-copy.ensures.1
    (far_lost (state_of g.F.Folder.state c.args.lookup.now)
    (state_of g.F.Folder.state c.loop-path.lookup)
    (state_of g.F.Folder.state c.seen_at.new.lookup) c.args.paths.now
    c.loop-path.rest.now c.in-Some.others.now c.in-Some.path.now c.loop-path.looks c.loop-path.invariant.far (search rules)
    (entry_of c.in_ok-seen.seen) c.in_ok-seen.ensures.answered)

pub returns-in_err-push-clause-answered : goal.returns-in_err-push-clause-answered
returns-in_err-push-clause-answered g c =
    looked_err done _ _ (look_at_each c.args.paths.now) c.from_residual-in_err-push.result Memory
    c.from_residual-in_err-push.ensures.1
    (far_lost (state_of g.F.Folder.state c.args.lookup.now)
    (state_of g.F.Folder.state c.loop-path.lookup)
    (state_of g.F.Folder.state c.seen_at.new.lookup) c.args.paths.now
    c.loop-path.rest.now c.in-Some.others.now c.in-Some.path.now c.loop-path.looks c.loop-path.invariant.far (search rules)
    (entry_of c.in_ok-seen.seen) c.in_ok-seen.ensures.answered)

pub loop-path-preserved : goal.loop-path-preserved
loop-path-preserved g c = record {
  far =
      far_goes (state_of g.F.Folder.state c.args.lookup.now)
      (state_of g.F.Folder.state c.loop-path.lookup)
      (state_of g.F.Folder.state c.seen_at.new.lookup) c.args.paths.now
      c.loop-path.rest.now c.in-Some.others.now c.in-Some.path.now c.loop-path.looks c.loop-path.invariant.far (search rules)
      c.in_ok-seen.seen c.in_ok-copy.field-0 c.of.result c.push.new.self c.in_ok-copy.ensures.same
      c.in_ok-seen.ensures.answered c.in_ok-seen.ensures.held
      (counted_small look_limits (λ path. entry_of c.in_ok-seen.seen) c.loop-path.lookup.trail.now c.in-Some.path.now
      c.seen_at.new.lookup.trail.now c.in_ok-seen.ensures.counted) c.of.ensures c.in_ok-push.ensures;
  same = same_twice c.loop-path.invariant.same c.seen_at.ensures.same;
}

pub returns-clause-answered : goal.returns-clause-answered
returns-clause-answered g c =
    (far_ends (state_of g.F.Folder.state c.args.lookup.now)
    (state_of g.F.Folder.state c.loop-path.lookup) c.args.paths.now
    c.loop-path.rest.now c.loop-path.looks c.loop-path.invariant.far c.in_default.ensures.cases).0
