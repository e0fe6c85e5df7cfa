use Rattle.std.proofs.Common.{◌∙◌, ap}
use Rattle.page_spec.specs.Attributes.{attribute}
use Rattle.html_scan.specs.Fronts.{value_of}
use Rattle.html_scan.proofs.Spans.{value_fits}
use Rattle.html_scan.proofs.values.attribute.Goals as goal

pub span_in-requires : goal.span_in-requires
span_in-requires c =
    let f = value_fits c.args.text.now c.as_bytes.result.now c.args.piece (value_of c.in-Some.value) c.requires (c.in-Some.ensures ∙ ap (λ tag. attribute c.as_bytes.result.now tag) c.text_of.ensures.bytes) in
    record { tail = f.tail; text = f.text }
