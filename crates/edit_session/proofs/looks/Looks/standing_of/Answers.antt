use Rattle.edit_session.proofs.looks.Looks.standing_of.Goals as goal

pub returns : goal.returns
returns g c = c.standing_of.ensures
