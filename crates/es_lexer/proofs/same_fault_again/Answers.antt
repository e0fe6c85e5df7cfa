use Rattle.es_lexer.proofs.Again.{same_fault_again}
use Rattle.es_lexer.proofs.same_fault_again.Goals as goal

pub returns : goal.returns
returns c = same_fault_again
