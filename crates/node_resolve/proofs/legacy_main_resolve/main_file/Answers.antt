use Rattle.package_lookup.specs.Responses.{itself}
use Rattle.node_resolve.proofs.Answering.{memory_err}
use Rattle.node_resolve.proofs.legacy_main_resolve.main_file.Goals as goal

pub returns-in_err-url-clause-answered : goal.returns-in_err-url-clause-answered
returns-in_err-url-clause-answered g c = memory_err itself _ _ c.from_residual.result c.from_residual.ensures.1

pub returns-in-None-clause-answered : goal.returns-in-None-clause-answered
returns-in-None-clause-answered g c = rw c.in-None.is (c.index_file.ensures.answered c.args.package_folder.now c.in_ok-url.ensures)

pub returns-clause-answered : goal.returns-clause-answered
returns-clause-answered g c = rw c.in-Some.is (c.named_file.ensures.answered c.args.package_folder.now c.in_ok-url.ensures)
