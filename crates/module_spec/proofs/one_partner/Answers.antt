use Rattle.module_spec.proofs.BracketLaws.{one_partner}
use Rattle.module_spec.proofs.one_partner.Goals as goal

pub returns : goal.returns
returns c = one_partner
