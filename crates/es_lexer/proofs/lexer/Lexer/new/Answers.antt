use Rattle.es_lexer.proofs.Calls.{started}
use Rattle.es_lexer.proofs.lexer.Lexer.new.Goals as goal

pub invariant_of-result : goal.invariant_of-result
invariant_of-result c =
    started c.as_bytes-whole.result.now c.hashbang_rest.result.now c.none.result c.in_ok-stack.stack.items _ c.as_bytes-whole.ensures.utf8 c.hashbang_rest.ensures c.in_ok-stack.ensures.items c.in_ok-stack.ensures.capacity
    c.none.ensures
