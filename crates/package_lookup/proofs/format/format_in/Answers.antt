use Rattle.std.proofs.Common.{Some, None, Ok, ap, ◌∙◌}
use Rattle.node_spec.specs.EsmFileFormat.{format_in, format_of_kind}
use Rattle.package_record.specs.Shown.{record_shown}
use Rattle.package_record.specs.declared.package_json.Package.{Package}
use Rattle.package_lookup.specs.Responses.{given}
use Rattle.package_lookup.proofs.RecordAnswers.{format_given, format_fails, response_as}
use Rattle.package_lookup.proofs.format.format_in.Goals as goal

pub returns-in-Ok-None-clause-answered : goal.returns-in-Ok-None-clause-answered
returns-in-Ok-None-clause-answered g c =
    format_given _ _ c.args.scope.now (Ok None) (rw (c.in-Ok-None.is, c.in-Ok-None.field-0-is) at c.record_of.ensures.record)

pub returns-in-Ok-Some-clause-answered : goal.returns-in-Ok-Some-clause-answered
returns-in-Ok-Some-clause-answered g c =
    response_as _ _ (format_in (Some c.args.scope.now)) _ _
    (c.format_of_kind.ensures ∙ ap (λ (p : Package). given (Ok (format_of_kind p.kind))) c.deref.ensures)
    (format_given _ _ c.args.scope.now (Ok (Some (record_shown c.in-Ok-Some.package.value)))
    (rw (c.in-Ok-Some.is, c.in-Ok-Some.field-0-is) at c.record_of.ensures.record))

pub returns-in-Err-clause-answered : goal.returns-in-Err-clause-answered
returns-in-Err-clause-answered g c =
    response_as _ _ (format_in (Some c.args.scope.now)) _ _ c.without_record.ensures
    (format_fails _ _ c.args.scope.now c.in-Err.fault (rw c.in-Err.is at c.record_of.ensures.record))
