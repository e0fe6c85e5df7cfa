use Rattle.node_spec.specs.ReadPackageJson.{record_at}
use Rattle.package_lookup.specs.Answered.{state}
use Rattle.package_lookup.specs.Lookups.{state_of}
use Rattle.package_lookup.specs.Recorded.{shown_record}
use Rattle.package_lookup.specs.SeenLooks.{entry_of}
use Rattle.package_lookup.specs.declared.fault.LookupFault.TheVariants.{Memory}
use Rattle.package_lookup.proofs.Questions.{resolved_err, no_memory_now}
use Rattle.package_lookup.proofs.RecordAnswers.{no_record, record_fails, record_answered}
use Rattle.package_lookup.proofs.packages.record_by.Goals as goal

pub returns-in_err-join-clause-record : goal.returns-in_err-join-clause-record
returns-in_err-join-clause-record g c =
    resolved_err shown_record _ _ (record_at c.args.at.now) c.from_residual.result Memory c.from_residual.ensures.1
    (no_memory_now (state_of g.F.Folder.state c.args.lookup.now)
    (record_at c.args.at.now))

pub returns-in-None-clause-record : goal.returns-in-None-clause-record
returns-in-None-clause-record g c =
    no_record (state_of g.F.Folder.state c.args.lookup.now) c.args.at.now
    (rw c.in-None.is at c.in_ok-join.ensures)

pub returns-in-Err-clause-record : goal.returns-in-Err-clause-record
returns-in-Err-clause-record g c =
    let is = rw c.in-Some.is at c.in_ok-join.ensures in
    record_fails _ _ c.args.at.now c.in-Some.path c.in-Err.fault is.0 is.1
    (rw c.in-Err.is at c.sight.ensures.answered)

pub returns-in-Ok-clause-record : goal.returns-in-Ok-clause-record
returns-in-Ok-clause-record g c =
    let is = rw c.in-Some.is at c.in_ok-join.ensures in
    record_answered _ (state (g.F.Folder.state c.sight.new.folder) c.sight.new.self c.sight.new.trail)
    c.recorded.new.known c.args.at.now c.in-Some.path (entry_of c.in-Ok.seen) c.recorded.result is.0 is.1
    (rw c.in-Ok.is at c.sight.ensures.answered) c.recorded.ensures.record c.recorded.ensures.same
