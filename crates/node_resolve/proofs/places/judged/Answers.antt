use Rattle.node_spec.specs.EsmResolve.{judged}
use Rattle.node_resolve.specs.Places.{module_at}
use Rattle.node_resolve.proofs.Answering.{memory_err}
use Rattle.node_resolve.proofs.places.judged.Goals as goal

pub returns-in_err-place-clause-answered : goal.returns-in_err-place-clause-answered
returns-in_err-place-clause-answered g c =
    memory_err module_at _ (judged c.args.url.now) c.from_residual.result c.from_residual.ensures.1

pub returns-clause-answered : goal.returns-clause-answered
returns-clause-answered g c = c.judged_at.ensures.answered c.args.url.now c.in_ok-place.ensures
