use Rattle.std.proofs.Common.{◌<◌, length, ap, arith}
use Rattle.json_spec.proofs.Shorter.{space_at_most}
use Rattle.ordered_json.proofs.GrammarLemmas.{no_quote, bad_name, name_read, name_stops}
use Rattle.ordered_json.proofs.reader.read_name.Goals as goal

pub returns-in_default-clause-reads : goal.returns-in_default-clause-reads
returns-in_default-clause-reads c = no_quote _ c.in_default.ensures

pub returns-in_default-2-clause-reads : goal.returns-in_default-2-clause-reads
returns-in_default-2-clause-reads c = bad_name _ _ c.in-Some.ensures (rw c.in_default-2.is at c.in_ok-key.ensures)

pub returns-in-Some-after_byte-clause-reads : goal.returns-in-Some-after_byte-clause-reads
returns-in-Some-after_byte-clause-reads c =
    let found = rw c.in-Some-2.is at c.in_ok-key.ensures in
    name_read _ _ _ _ _ _ c.in-Some.ensures found.0 c.skip_space-rest.ensures c.in-Some-after_byte.ensures

pub returns-in-Some-after_byte-clause-shorter : goal.returns-in-Some-after_byte-clause-shorter
returns-in-Some-after_byte-clause-shorter c =
    let found = rw c.in-Some-2.is at c.in_ok-key.ensures in
    let l : length c.in-Some-2.rest.now < length c.in-Some.inner.now = found.1 in
    omega (arith, space_at_most c.in-Some-2.rest.now, ap length c.in-Some.ensures, ap length c.skip_space-rest.ensures, ap length c.in-Some-after_byte.ensures)

pub returns-in-None-clause-reads : goal.returns-in-None-clause-reads
returns-in-None-clause-reads c =
    let found = rw c.in-Some-2.is at c.in_ok-key.ensures in
    name_stops _ _ _ _ _ c.in-Some.ensures found.0 c.skip_space-rest.ensures c.in-None.ensures
