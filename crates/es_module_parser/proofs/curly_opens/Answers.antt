use Rattle.es_module_parser.proofs.BracePartners.{curly_opens}
use Rattle.es_module_parser.proofs.curly_opens.Goals as goal

pub returns : goal.returns
returns c = curly_opens
