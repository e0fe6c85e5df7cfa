use Rattle.layer_measure.proofs.outlines.tell.Given as goal

abbrev pub ghosts-report_on : goal.ghosts-report_on
ghosts-report_on g a = record { name = a.blank.name; parts = a.blank.parts }
