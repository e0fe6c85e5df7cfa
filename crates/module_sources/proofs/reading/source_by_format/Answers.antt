use Rattle.std.specs.Prelude.{Ok}
use Rattle.node_spec.specs.EsmFileFormat.{IsModule, IsDetected}
use Rattle.package_lookup.specs.Lookups.{state_of}
use Rattle.package_lookup.specs.Responses.{looked}
use Rattle.module_sources.specs.Shown.{source_in}
use Rattle.module_sources.proofs.SourceAnswers.{at_format, no_module_now}
use Rattle.module_sources.proofs.reading.source_by_format.Goals as goal

pub returns-in-Module-clause-answered : goal.returns-in-Module-clause-answered
returns-in-Module-clause-answered g c = λ found is.
    at_format _ _ c.args.path.now (Ok IsModule) found (looked source_in c.read_module.result)
    (rw c.in-Module.is at is) c.read_module.ensures.answered

pub returns-in-Detect-clause-answered : goal.returns-in-Detect-clause-answered
returns-in-Detect-clause-answered g c = λ found is.
    at_format _ _ c.args.path.now (Ok IsDetected) found (looked source_in c.read_module-in-Detect.result)
    (rw c.in-Detect.is at is) c.read_module-in-Detect.ensures.answered

pub returns-in-Not-clause-answered : goal.returns-in-Not-clause-answered
returns-in-Not-clause-answered g c = λ found is.
    no_module_now (state_of g.F.Folder.state c.args.lookup.now) c.args.path.now found
    c.in-Not.reason (rw c.in-Not.is at is)
