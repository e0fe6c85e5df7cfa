use Rattle.std.proofs.Common.{subst}
use Rattle.node_spec.specs.EsmFileFormat.{file_format}
use Rattle.package_lookup.specs.Answered.{state, Answered}
use Rattle.package_lookup.specs.Lookups.{state_of}
use Rattle.package_lookup.specs.Formats.{by_format, formatted}
use Rattle.package_lookup.proofs.RecordAnswers.{format_known, format_scoped}
use Rattle.package_lookup.proofs.format.format_of.Goals as goal

pub returns-in-Some-clause-answered : goal.returns-in-Some-clause-answered
returns-in-Some-clause-answered g c =
    subst (λ trail. Answered (state (g.F.Folder.state c.args.lookup.now.folder.now) c.args.lookup.now.known.now trail)
    (file_format c.args.path.now) (by_format c.in-Some.format)
    (state (g.F.Folder.state c.args.lookup.now.folder.now) c.args.lookup.now.known.now c.begin.new.self)) c.begin.ensures
    (format_known (state (g.F.Folder.state c.args.lookup.now.folder.now) c.args.lookup.now.known.now c.begin.new.self) c.args.path.now
    c.in-Some.format (rw c.in-Some.is at c.format_by_ending.ensures))

pub returns-in-None-clause-answered : goal.returns-in-None-clause-answered
returns-in-None-clause-answered g c =
    subst (λ trail. Answered (state (g.F.Folder.state c.args.lookup.now.folder.now) c.args.lookup.now.known.now trail)
    (file_format c.args.path.now) (formatted c.format_by_scope.result)
    (state_of g.F.Folder.state c.format_by_scope.new.lookup))
    c.begin.ensures
    (format_scoped _ _ c.args.path.now (formatted c.format_by_scope.result)
    (rw c.in-None.is at c.format_by_ending.ensures) c.format_by_scope.ensures.answered)
