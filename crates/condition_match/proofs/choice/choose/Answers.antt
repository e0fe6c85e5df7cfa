use Rattle.condition_match.proofs.AskLemmas.{if_chosen, if_begun}
use Rattle.condition_match.proofs.choice.choose.Goals as goal

pub returns-clause-chosen : goal.returns-clause-chosen
returns-clause-chosen g c = if_chosen g.B.BareTarget.gives g.B.BareTarget.fails _ _ _ _ c.choose_value.result c.choose_value.ensures

pub returns-clause-memory : goal.returns-clause-memory
returns-clause-memory g c = if_begun g.B.BareTarget.gives g.B.BareTarget.fails _ _ _ c.choose_value.result c.choose_value.ensures
