use Rattle.es_module_parser.proofs.SomeOutline.{some_outline}
use Rattle.es_module_parser.proofs.some_outline.Goals as goal

pub returns : goal.returns
returns c = some_outline
