use Rattle.layer_measure.proofs.packages.tell.Given as goal

abbrev pub ghosts-resolve_file : goal.ghosts-resolve_file
ghosts-resolve_file g a = record { name = a.blank.name; parts = a.blank.parts }
