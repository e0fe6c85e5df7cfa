use Rattle.json_spec.specs.Strings.{in_utf8, no_utf8}
use Rattle.ordered_json.proofs.StringsLemmas.{plain_at_most, plain_string}
use Rattle.ordered_json.proofs.strings.read_string.Goals as goal

pub piece_before-requires : goal.piece_before-requires
piece_before-requires c = rw c.skip_plain-after.ensures (plain_at_most c.args.bytes.now)

pub returns-in_ok-of-in-Ok : goal.returns-in_ok-of-in-Ok
returns-in_ok-of-in-Ok c =
    let whole = plain_string _ _ c.piece_before.result.now _ c.skip_plain-after.ensures c.piece_before.ensures c.in-Some.ensures in
    rw (c.in_ok-of-in-Ok.ensures, c.in-Ok.ensures.cases.0) (in_utf8 whole.0 c.in-Ok.ensures.cases.1, whole.1)

pub returns-in-Err : goal.returns-in-Err
returns-in-Err c =
    let whole = plain_string _ _ c.piece_before.result.now _ c.skip_plain-after.ensures c.piece_before.ensures c.in-Some.ensures in
    no_utf8 whole.0 c.in-Err.ensures.cases.0
