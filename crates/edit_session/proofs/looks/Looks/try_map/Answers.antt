use Rattle.edit_session.proofs.looks.Looks.try_map.Goals as goal

pub returns-clause-tries : goal.returns-clause-tries
returns-clause-tries g c = c.try_map.ensures.tries
