use Rattle.page_spec.proofs.Injections.{some_injection}
use Rattle.page_spec.proofs.some_injection.Goals as goal

pub returns : goal.returns
returns c = some_injection
