use Rattle.run_tries.proofs.again.again_outcome.Given as goal

abbrev pub ghosts-held : goal.ghosts-held
ghosts-held a = record { name = a.blank.name; parts = a.blank.parts }
