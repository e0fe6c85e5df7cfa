use Rattle.graph_rows.proofs.main.Given as goal

abbrev pub ghosts-led : goal.ghosts-led
ghosts-led a = record { name = a.blank.name; parts = a.blank.parts }
