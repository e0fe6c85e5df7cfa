use Rattle.std.proofs.Common.{rules}
use Rattle.exports_patterns.proofs.FewLemmas.{no_part}
use Rattle.exports_patterns.proofs.few.pattern_end.Goals as goal

pub returns-in_default-ahead_of : goal.returns-in_default-ahead_of
returns-in_default-ahead_of c =
    no_part c.args.asked.now c.as_bytes.result.now c.args.base.now c.as_bytes-2.result.now c.in-Some.rest.now c.args.trailer.now c.as_bytes-3.result.now
    (search rules) (search rules) (search rules) c.in-Some.ensures c.in_default-ahead_of.ensures
