use Rattle.es_module_parser.proofs.BracePartners.{braces_are_partners}
use Rattle.es_module_parser.proofs.braces_are_partners.Goals as goal

pub returns : goal.returns
returns c = braces_are_partners
