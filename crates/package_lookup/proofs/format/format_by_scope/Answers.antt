use Rattle.package_lookup.specs.Lookups.{state_of}
use Rattle.package_lookup.proofs.RecordAnswers.{no_scope, in_scope, scope_fails, scope_of_file, formatted_err, scope_no_memory}
use Rattle.package_lookup.proofs.format.format_by_scope.Goals as goal

pub returns-in_err-from-clause-answered : goal.returns-in_err-from-clause-answered
returns-in_err-from-clause-answered g c =
    formatted_err _ _ _ c.from_residual.result c.from_residual.ensures.1
    (scope_no_memory (state_of g.F.Folder.state c.args.lookup.now) c.args.path.now)

pub returns-in-Err-clause-answered : goal.returns-in-Err-clause-answered
returns-in-Err-clause-answered g c =
    scope_of_file _ _ c.in_ok-from.from c.args.path.now _ c.in_ok-from.ensures
    (scope_fails _ _ c.in_ok-from.from c.in-Err.fault (rw c.in-Err.is at c.scope_of.ensures.answered))

pub returns-in-Ok-None-clause-answered : goal.returns-in-Ok-None-clause-answered
returns-in-Ok-None-clause-answered g c =
    scope_of_file _ _ c.in_ok-from.from c.args.path.now _ c.in_ok-from.ensures
    (no_scope _ _ c.in_ok-from.from (rw (c.in-Ok-None.is, c.in-Ok-None.field-0-is) at c.scope_of.ensures.answered))

pub returns-clause-answered : goal.returns-clause-answered
returns-clause-answered g c =
    scope_of_file _ _ c.in_ok-from.from c.args.path.now _ c.in_ok-from.ensures
    (in_scope _ (state_of g.F.Folder.state c.scope_of.new.lookup) _
    c.in_ok-from.from c.in-Ok-Some.scope _
    (rw (c.in-Ok-Some.is, c.in-Ok-Some.field-0-is) at c.scope_of.ensures.answered) c.format_in.ensures.answered)
