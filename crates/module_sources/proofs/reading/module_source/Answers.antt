use Rattle.package_lookup.specs.Responses.{looked}
use Rattle.module_sources.specs.Shown.{source_in}
use Rattle.module_sources.proofs.SourceAnswers.{without_format, behind_format}
use Rattle.module_sources.proofs.reading.module_source.Goals as goal

pub returns-in-Err-clause-answered : goal.returns-in-Err-clause-answered
returns-in-Err-clause-answered g c =
    without_format _ _ c.args.path.now c.in-Err.fault (looked source_in c.without_format.result)
    c.without_format.ensures.source (rw c.in-Err.is at c.format_of.ensures.answered)

pub returns-in-Ok-clause-answered : goal.returns-in-Ok-clause-answered
returns-in-Ok-clause-answered g c =
    behind_format _ _ _ c.args.path.now (looked source_in c.source_by_format.result) c.in-Ok.format
    (rw c.in-Ok.is at c.format_of.ensures.answered) c.source_by_format.ensures.answered
