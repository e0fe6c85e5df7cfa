use Rattle.page_spec.proofs.Injections.{injected_is_utf8}
use Rattle.page_spec.proofs.injected_is_utf8.Goals as goal

pub returns : goal.returns
returns c = injected_is_utf8
