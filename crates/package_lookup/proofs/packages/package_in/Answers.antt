use Rattle.std.specs.Prelude.{is_some}
use Rattle.node_spec.specs.Nearest.{is_accepted}
use Rattle.node_spec.specs.PackageResolve.{packages}
use Rattle.package_lookup.specs.Lookups.{state_of}
use Rattle.package_lookup.specs.declared.fault.LookupFault.TheVariants.{Memory}
use Rattle.package_lookup.proofs.Questions.{looked_err, no_memory_now}
use Rattle.package_lookup.proofs.Searches.{nothing_there, fault_there, seen_there}
use Rattle.package_lookup.proofs.packages.package_in.Goals as goal

pub returns-in_err-join-clause-answered : goal.returns-in_err-join-clause-answered
returns-in_err-join-clause-answered g c = λ name is.
    looked_err is_some _ _ (is_accepted (packages name) c.args.at.now) c.from_residual.result Memory
    c.from_residual.ensures.1
    (no_memory_now (state_of g.F.Folder.state c.args.lookup.now)
    (is_accepted (packages name) c.args.at.now))

pub returns-in-None-clause-answered : goal.returns-in-None-clause-answered
returns-in-None-clause-answered g c = λ name is.
    nothing_there (packages name) (state_of g.F.Folder.state c.args.lookup.now)
    c.args.at.now (rw (c.in-None.is, is) at c.in_ok-join.ensures)

pub returns-in-Err-clause-answered : goal.returns-in-Err-clause-answered
returns-in-Err-clause-answered g c = λ name is.
    let joins = rw (c.in-Some.is, is) at c.in_ok-join.ensures in
    fault_there (packages name) _ _ c.args.at.now c.in-Some.path c.in-Err.fault joins.0 joins.1
    (rw c.in-Err.is at c.look.ensures.answered)

pub returns-in-Ok-Folder-clause-answered : goal.returns-in-Ok-Folder-clause-answered
returns-in-Ok-Folder-clause-answered g c = λ name is.
    let joins = rw (c.in-Some.is, is) at c.in_ok-join.ensures in
    seen_there (packages name) _ _ c.args.at.now c.in-Some.path _ joins.0 joins.1
    (rw (c.in-Ok-Folder.is, c.in-Ok-Folder.field-0-is) at c.look.ensures.answered)

pub returns-in-Ok-Absent-clause-answered : goal.returns-in-Ok-Absent-clause-answered
returns-in-Ok-Absent-clause-answered g c = λ name is.
    let joins = rw (c.in-Some.is, is) at c.in_ok-join.ensures in
    seen_there (packages name) _ _ c.args.at.now c.in-Some.path _ joins.0 joins.1
    (rw (c.in-Ok-Absent.is, c.in-Ok-Absent.field-0-is) at c.look.ensures.answered)

pub returns-in-Ok-File-clause-answered : goal.returns-in-Ok-File-clause-answered
returns-in-Ok-File-clause-answered g c = λ name is.
    let joins = rw (c.in-Some.is, is) at c.in_ok-join.ensures in
    seen_there (packages name) _ _ c.args.at.now c.in-Some.path _ joins.0 joins.1
    (rw (c.in-Ok-File.is, c.in-Ok-File.field-0-is) at c.look.ensures.answered)
