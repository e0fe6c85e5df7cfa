use Rattle.map_parse.proofs.ScopeLemmas.{last_fails}
use Rattle.map_parse.proofs.scopes.gathered_from.Goals as goal

pub returns-in-Err : goal.returns-in-Err
returns-in-Err c =
    last_fails c.args.base.now c.loop-key.scopes _ c.in-Err.fault c.loop-key.pairs.items c.pop.new.self.items c.as_str.result.now _ _ c.loop-key.invariant c.in-Some.ensures.items c.as_str.ensures c.in-Err.ensures
