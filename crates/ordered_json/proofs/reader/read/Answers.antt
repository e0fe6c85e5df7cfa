use Rattle.ordered_json.proofs.GrammarLemmas.{whole_json}
use Rattle.ordered_json.proofs.IsJsonLemmas.{has_json}
use Rattle.json_spec.proofs.DistinctNames.{names_are_distinct}
use Rattle.ordered_json.proofs.reader.read.Goals as goal

pub returns-in-Ok : goal.returns-in-Ok
returns-in-Ok c =
    let reads = whole_json c.args.bytes.now _ c.in-Ok.ensures in
    has_json c.args.bytes.now c.in-Ok.value reads (names_are_distinct c.args.bytes.now _ reads)

pub returns-in-Err-Unreadable : goal.returns-in-Err-Unreadable
returns-in-Err-Unreadable c = let e = rw c.in-Err-Unreadable.field-0-is at c.in-Err-Unreadable.ensures in rw c.saturating_sub.ensures (whole_json c.args.bytes.now _ e)

pub returns-in-Err-Deep : goal.returns-in-Err-Deep
returns-in-Err-Deep c = let e = rw c.in-Err-Deep.field-0-is at c.in-Err-Deep.ensures in rw c.saturating_sub-in-Err-Deep.ensures (whole_json c.args.bytes.now _ e)
