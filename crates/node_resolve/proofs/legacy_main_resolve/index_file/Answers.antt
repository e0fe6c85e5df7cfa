use Rattle.node_spec.specs.LegacyMainResolve.{index_files, first_file}
use Rattle.node_spec.specs.NodeAnswers.{refuses}
use Rattle.node_spec.specs.declared.Cause.TheVariants.{NotFound}
use Rattle.node_resolve.proofs.Answering.{refused_now}
use Rattle.node_resolve.proofs.Forms.{index_is}
use Rattle.node_resolve.proofs.MainLemmas.{file_fails, file_found, file_behind}
use Rattle.node_resolve.proofs.legacy_main_resolve.index_file.Goals as goal

pub returns-in-Err-clause-answered : goal.returns-in-Err-clause-answered
returns-in-Err-clause-answered g c = λ path e.
    file_fails _ _ path index_files (refuses NotFound) (first_file path index_files) (index_is path) c.in-Err.fault
    c.behind.result c.behind.ensures (rw c.in-Err.is at (c.first_served.ensures.answered path e))

pub returns-in-Ok-Some-clause-answered : goal.returns-in-Ok-Some-clause-answered
returns-in-Ok-Some-clause-answered g c = λ path e.
    file_found _ _ path index_files (refuses NotFound) (first_file path index_files) (index_is path) c.in-Ok-Some.found
    (rw (c.in-Ok-Some.is, c.in-Ok-Some.field-0-is) at (c.first_served.ensures.answered path e))

pub returns-in-Ok-None-clause-answered : goal.returns-in-Ok-None-clause-answered
returns-in-Ok-None-clause-answered g c = λ path e.
    file_behind _ _ path index_files (refuses NotFound) (first_file path index_files) (index_is path) _ _
    (rw (c.in-Ok-None.is, c.in-Ok-None.field-0-is) at (c.first_served.ensures.answered path e)) (refused_now _ NotFound)
