use Rattle.std.proofs.Common.{◌∙◌, ap, sym}
use Rattle.json_spec.specs.PropertyOrder.{is_array_index}
use Rattle.ordered_json.specs.Shown.{members_of}
use Rattle.map_parse.proofs.PlainNames.{plain_behind, plain_at_end, as_written}
use Rattle.map_parse.proofs.scopes.are_as_written.Goals as goal

pub loop-pair-preserved : goal.loop-pair-preserved
loop-pair-preserved c = λ plain.
    c.loop-pair.invariant
    (plain_behind c.loop-pair.rest.now c.in-Some.more.now c.in-Some.pair.now c.in-Some.ensures.cases.0
    (ap is_array_index (sym (c.as_bytes.ensures.value ∙ c.as_str.ensures)) ∙ c.begins_with_digit.ensures c.if-begins_with_digit.false) plain)

pub returns : goal.returns
returns c = λ t. as_written (members_of c.args.pairs.now) (c.loop-pair.invariant (plain_at_end c.loop-pair.rest.now c.in_default.ensures.cases))
