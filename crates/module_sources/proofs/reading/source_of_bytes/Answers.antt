use Rattle.std.proofs.Common.{Ok, sym, ◌∙◌, subst}
use Rattle.std.specs.Str.{IsUtf8}
use Rattle.std.proofs.lemmas.Result.{IfOk-weaker}
use Rattle.module_spec.specs.Outlines.{ReadsOutline}
use Rattle.es_module_parser.specs.Outlines.{as_outline}
use Rattle.module_sources.proofs.SourceAnswers.{bad_bytes, good_bytes, outline_of}
use Rattle.module_sources.proofs.RequestSpans.{requests_inside}
use Rattle.module_sources.proofs.reading.source_of_bytes.Goals as goal

pub source_of_outline-requires-clause-inside : goal.source_of_outline-requires-clause-inside
source_of_outline-requires-clause-inside g c =
    let read = c.as_bytes.ensures ∙ c.deref.ensures in
    requests_inside c.args.bytes.value c.in-Ok.text.now (as_outline c.in-Ok-outline.outline)
    (c.in-Ok.ensures.cases.0 ∙ read) (subst IsUtf8 read c.in-Ok.ensures.cases.1) c.in-Ok-outline.ensures.outline

pub source_of_outline-requires-clause-read : goal.source_of_outline-requires-clause-read
source_of_outline-requires-clause-read g c =
    let read = c.as_bytes.ensures ∙ c.deref.ensures in
    record {
      utf8 = subst IsUtf8 read c.in-Ok.ensures.cases.1;
      outline = as_outline c.in-Ok-outline.outline;
      reads =
          subst (λ bytes. ReadsOutline bytes (Ok (as_outline c.in-Ok-outline.outline))) (c.in-Ok.ensures.cases.0 ∙ read)
          c.in-Ok-outline.ensures.outline;
    }

pub returns-in-Err-clause-source : goal.returns-in-Err-clause-source
returns-in-Err-clause-source g c =
    c.unreadable.ensures.source
    ∙ bad_bytes c.args.is_detected c.args.bytes.value c.as_bytes.result.now c.valid_up_to.result
    (c.as_bytes.ensures ∙ c.deref.ensures) c.in-Err.ensures.cases.0 (c.valid_up_to.ensures ∙ c.in-Err.ensures.valid_len)

pub returns-in-Err-outline-clause-source : goal.returns-in-Err-outline-clause-source
returns-in-Err-outline-clause-source g c =
    IfOk-weaker c.without_outline.result _ _
    (λ found is. is c.in-Ok.text.now c.args.bytes.value c.args.is_detected c.in-Err-outline.ensures.fault
    ∙ sym (good_bytes c.args.is_detected c.args.bytes.value c.as_bytes.result.now c.in-Ok.text.now
    (c.as_bytes.ensures ∙ c.deref.ensures) c.in-Ok.ensures.cases.0 c.in-Ok.ensures.cases.1))
    c.without_outline.ensures.source

pub returns-in-Ok-outline-clause-source : goal.returns-in-Ok-outline-clause-source
returns-in-Ok-outline-clause-source g c =
    IfOk-weaker c.source_of_outline.result _ _
    (λ found is. is
    ∙ sym (good_bytes c.args.is_detected c.args.bytes.value c.as_bytes.result.now c.in-Ok.text.now
    (c.as_bytes.ensures ∙ c.deref.ensures) c.in-Ok.ensures.cases.0 c.in-Ok.ensures.cases.1
    ∙ outline_of c.in-Ok.text.now c.args.is_detected c.args.bytes.value (Ok (as_outline c.in-Ok-outline.outline))
    c.in-Ok-outline.ensures.outline))
    c.source_of_outline.ensures.source
