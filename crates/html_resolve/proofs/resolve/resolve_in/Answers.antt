use Rattle.import_map_spec.proofs.SameQuestion.{same_question}
use Rattle.html_resolve.proofs.OutcomeLemmas.{resolves_moved}
use Rattle.html_resolve.proofs.resolve.resolve_in.Goals as goal

pub returns-clause-alike : goal.returns-clause-alike
returns-clause-alike c = λ other p q e. resolves_moved _ _ _ (same_question _ _ _ other p q e) c.answer_in.ensures
