use Rattle.std.proofs.Common.{rules, refl}
use Rattle.map_parse.proofs.ScopeLemmas.{next_fails}
use Rattle.map_parse.proofs.scopes.gathered.Goals as goal

pub returns-in-Err : goal.returns-in-Err
returns-in-Err c =
    next_fails c.args.base.now c.loop-pair.scopes _ c.in-Err.fault c.args.pairs.now c.loop-pair.pair-index c.pair-item.result c.as_str.result.now _ c.loop-pair.invariant c.loop-pair-test.true (search (rules)) c.in-Err.ensures c.as_str.ensures refl
