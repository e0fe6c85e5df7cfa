use Rattle.run_tries.proofs.endless.endless_line.Given as goal

abbrev pub ghosts-status_of : goal.ghosts-status_of
ghosts-status_of a = record { name = a.blank.name; parts = a.blank.parts }
