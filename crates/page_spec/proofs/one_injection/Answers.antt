use Rattle.page_spec.proofs.Injections.{one_injection}
use Rattle.page_spec.proofs.one_injection.Goals as goal

pub returns : goal.returns
returns c = one_injection
