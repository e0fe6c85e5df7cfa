use Rattle.page_spec.proofs.Injections.{same_page_again}
use Rattle.page_spec.proofs.same_page_again.Goals as goal

pub returns : goal.returns
returns c = same_page_again
