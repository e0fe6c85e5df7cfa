use Rattle.node_spec.specs.LookupPackageScope.{scopes}
use Rattle.node_spec.specs.Nearest.{is_accepted}
use Rattle.package_lookup.specs.Lookups.{state_of}
use Rattle.package_lookup.specs.Responses.{itself}
use Rattle.package_lookup.specs.SeenLooks.{entry_of}
use Rattle.package_lookup.specs.declared.fault.LookupFault.TheVariants.{Memory}
use Rattle.package_lookup.proofs.Questions.{looked_err, no_memory_now, given_as}
use Rattle.package_lookup.proofs.Searches.{nothing_there, fault_there, seen_there}
use Rattle.package_lookup.proofs.packages.holds_record.Goals as goal

pub returns-in_err-join-clause-answered : goal.returns-in_err-join-clause-answered
returns-in_err-join-clause-answered g c =
    looked_err itself _ _ (is_accepted scopes c.args.at.now) c.from_residual.result Memory c.from_residual.ensures.1
    (no_memory_now (state_of g.F.Folder.state c.args.lookup.now)
    (is_accepted scopes c.args.at.now))

pub returns-in-None-clause-answered : goal.returns-in-None-clause-answered
returns-in-None-clause-answered g c =
    nothing_there scopes (state_of g.F.Folder.state c.args.lookup.now) c.args.at.now
    (rw c.in-None.is at c.in_ok-join.ensures)

pub returns-in-Err-clause-answered : goal.returns-in-Err-clause-answered
returns-in-Err-clause-answered g c =
    let is = rw c.in-Some.is at c.in_ok-join.ensures in
    fault_there scopes _ _ c.args.at.now c.in-Some.path c.in-Err.fault is.0 is.1
    (rw c.in-Err.is at c.look.ensures.answered)

pub returns-clause-answered : goal.returns-clause-answered
returns-clause-answered g c =
    let is = rw c.in-Some.is at c.in_ok-join.ensures in
    given_as _ _ (is_accepted scopes c.args.at.now) _ c.is_file.result c.is_file.ensures
    (seen_there scopes _ _ c.args.at.now c.in-Some.path (entry_of c.in-Ok.seen) is.0 is.1
    (rw c.in-Ok.is at c.look.ensures.answered))
