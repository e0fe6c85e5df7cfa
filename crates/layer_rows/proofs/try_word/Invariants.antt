use Rattle.layer_rows.proofs.try_word.Given as goal

abbrev pub ghosts-try_texts : goal.ghosts-try_texts
ghosts-try_texts g a = record { name = a.blank.name; parts = a.blank.parts }

abbrev pub ghosts-try_packages : goal.ghosts-try_packages
ghosts-try_packages g a = record { name = a.blank.name; parts = a.blank.parts }
