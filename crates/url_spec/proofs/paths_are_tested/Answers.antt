use Rattle.url_spec.proofs.PathDecisions.{path_by_test, test_by_path}
use Rattle.url_spec.proofs.PathTestLemmas.{served_by_test, test_by_served}
use Rattle.url_spec.proofs.paths_are_tested.Goals as goal

pub returns : goal.returns
returns c = (λ text. (path_by_test text, test_by_path text), λ base url path. (served_by_test base url path, test_by_served base url path))
