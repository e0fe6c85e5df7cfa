use Rattle.es_lexer.proofs.Calls.{depth_of}
use Rattle.es_lexer.proofs.lexer.Lexer.depth.Goals as goal

pub returns : goal.returns
returns c = depth_of c.args.self.now c.as_slice.result.now c.self.view_is c.self.invariant c.as_slice.ensures.value
