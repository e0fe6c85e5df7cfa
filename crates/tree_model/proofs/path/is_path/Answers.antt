use Rattle.tree_spec.proofs.RootAlone.{root_is_path}
use Rattle.tree_model.proofs.Segments.{root_test}
use Rattle.tree_model.proofs.path.is_path.Goals as goal

pub returns-then-eq : goal.returns-then-eq
returns-then-eq c = ((λ t. root_is_path _ (root_test _ _ c.eq.ensures c.if-eq.true)), (λ is. c.if-eq.true))
