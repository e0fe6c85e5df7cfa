use Rattle.std.proofs.Common.{rules}
use Rattle.package_lookup.specs.Lookups.{state_of}
use Rattle.package_lookup.specs.SeenLooks.{entry_of}
use Rattle.package_lookup.proofs.SameLookups.{same_twice}
use Rattle.kept_answers.proofs.LookingAgain.{is_known, again_err, again_fails, again_differs, again_goes, again_ends}
use Rattle.kept_answers.proofs.looks.look_by_look.Goals as goal

pub returns-in_err-seen-clause-again : goal.returns-in_err-seen-clause-again
returns-in_err-seen-clause-again g c =
    again_err (state_of g.F.Folder.state c.args.lookup.now) c.args.looks.now
    c.from_residual.result c.in_err-seen.field-0.0
    (state_of g.F.Folder.state c.seen_at.new.lookup) c.from_residual.ensures.1
    (again_fails (state_of g.F.Folder.state c.args.lookup.now)
    (state_of g.F.Folder.state c.loop-look.lookup)
    (state_of g.F.Folder.state c.seen_at.new.lookup) c.args.looks.now
    c.loop-look.rest.now c.in-Some.others.now c.in-Some.look.now c.path.result.now c.loop-look.invariant.again (search rules)
    c.path.ensures.path c.in_err-seen.field-0.0 c.in_err-seen.ensures.answered)

pub returns-then-not-saw-clause-again : goal.returns-then-not-saw-clause-again
returns-then-not-saw-clause-again g c =
    again_differs (state_of g.F.Folder.state c.args.lookup.now)
    (state_of g.F.Folder.state c.loop-look.lookup)
    (state_of g.F.Folder.state c.seen_at.new.lookup) c.args.looks.now
    c.loop-look.rest.now c.in-Some.others.now c.in-Some.look.now c.path.result.now c.loop-look.invariant.again (search rules)
    c.path.ensures.path c.in_ok-seen.seen c.in_ok-seen.ensures.answered c.in_ok-seen.ensures.held
    (λ e. let yes = c.saw.ensures.1 e in let no = c.if-not-saw.true in absurd (cc)) c.path.ensures.small

pub loop-look-preserved-else-not-saw : goal.loop-look-preserved-else-not-saw
loop-look-preserved-else-not-saw g c = record {
  again =
      again_goes (state_of g.F.Folder.state c.args.lookup.now)
      (state_of g.F.Folder.state c.loop-look.lookup)
      (state_of g.F.Folder.state c.seen_at.new.lookup) c.args.looks.now
      c.loop-look.rest.now c.in-Some.others.now c.in-Some.look.now c.path.result.now c.loop-look.invariant.again (search rules)
      c.path.ensures.path (entry_of c.in_ok-seen.seen) c.in_ok-seen.ensures.answered
      (is_known c.seen_at.new.lookup.known.now c.path.result.now c.in_ok-seen.seen c.in-Some.look.now c.in_ok-seen.ensures.held
      (c.saw.ensures.0 c.if-not-saw.false) c.path.ensures.path c.path.ensures.small);
  same = same_twice c.loop-look.invariant.same c.seen_at.ensures.same;
}

pub loop-look-preserved : goal.loop-look-preserved
loop-look-preserved g c = record {
  again =
      again_goes (state_of g.F.Folder.state c.args.lookup.now)
      (state_of g.F.Folder.state c.loop-look.lookup)
      (state_of g.F.Folder.state c.seen_at.new.lookup) c.args.looks.now
      c.loop-look.rest.now c.in-Some.others.now c.in-Some.look.now c.path.result.now c.loop-look.invariant.again (search rules)
      c.path.ensures.path (entry_of c.in_ok-seen.seen) c.in_ok-seen.ensures.answered
      (is_known c.seen_at.new.lookup.known.now c.path.result.now c.in_ok-seen.seen c.in-Some.look.now c.in_ok-seen.ensures.held
      (c.saw.ensures.0 c.if-not-saw.false) c.path.ensures.path c.path.ensures.small);
  same = same_twice c.loop-look.invariant.same c.seen_at.ensures.same;
}

pub returns-clause-again : goal.returns-clause-again
returns-clause-again g c =
    again_ends (state_of g.F.Folder.state c.args.lookup.now)
    (state_of g.F.Folder.state c.loop-look.lookup) c.args.looks.now
    c.loop-look.rest.now c.loop-look.invariant.again c.in_default.ensures.cases
