use Rattle.es_lexer.proofs.Calls.{property_of}
use Rattle.es_lexer.proofs.lexer.Lexer.before_property.Goals as goal

pub returns : goal.returns
returns c = property_of c.args.self.now c.self.view_is c.self.invariant c.names_property.ensures
