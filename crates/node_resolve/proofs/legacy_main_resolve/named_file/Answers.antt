use Rattle.std.proofs.Common.{◌++◌, Some}
use Rattle.std.specs.Prelude.{map}
use Rattle.node_spec.specs.LegacyMainResolve.{main_ends, index_files, first_file, main_file}
use Rattle.node_resolve.proofs.Forms.{main_is}
use Rattle.node_resolve.proofs.MainLemmas.{file_fails, file_found, file_behind}
use Rattle.node_resolve.proofs.legacy_main_resolve.named_file.Goals as goal

pub returns-in-Err-clause-answered : goal.returns-in-Err-clause-answered
returns-in-Err-clause-answered g c = λ path e.
    file_fails _ _ path (map (λ end. c.args.main.now ++ end) main_ends) (first_file path index_files) (main_file path (Some c.args.main.now)) (main_is path c.args.main.now)
    c.in-Err.fault c.behind.result c.behind.ensures (rw c.in-Err.is at (c.first_served.ensures.answered path e))

pub returns-in-Ok-Some-clause-answered : goal.returns-in-Ok-Some-clause-answered
returns-in-Ok-Some-clause-answered g c = λ path e.
    file_found _ _ path (map (λ end. c.args.main.now ++ end) main_ends) (first_file path index_files) (main_file path (Some c.args.main.now)) (main_is path c.args.main.now)
    c.in-Ok-Some.found (rw (c.in-Ok-Some.is, c.in-Ok-Some.field-0-is) at (c.first_served.ensures.answered path e))

pub returns-in-Ok-None-clause-answered : goal.returns-in-Ok-None-clause-answered
returns-in-Ok-None-clause-answered g c = λ path e.
    file_behind _ _ path (map (λ end. c.args.main.now ++ end) main_ends) (first_file path index_files) (main_file path (Some c.args.main.now)) (main_is path c.args.main.now)
    _ _ (rw (c.in-Ok-None.is, c.in-Ok-None.field-0-is) at (c.first_served.ensures.answered path e)) (c.index_file.ensures.answered path e)
